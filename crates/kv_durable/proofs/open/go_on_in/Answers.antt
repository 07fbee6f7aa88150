use Rattle.std.proofs.Common.{◌≡◌, ℕ, true, List, ◌++◌, rules}
use Rattle.kv_journal.specs.Entries.{acts_of}
use Rattle.kv_durable.specs.Bases.{acts_before}
use Rattle.kv_durable.proofs.Finding.{cut_parts, memory_of_legal, of_version}
use Rattle.kv_durable.proofs.open.go_on_in.Goals as goal

pub returns-in_err-cut-clause-handed : goal.returns-in_err-cut-clause-handed
returns-in_err-cut-clause-handed g c =
    let has = g.F.JournalFile.has in
    let inner : g.F.JournalFile.usable c.args.file.now ≡ true → (kept loose : List ℕ) → has c.args.file.now kept loose → (k : List ℕ) × (l : List ℕ) × (k ++ l ≡ kept ++ loose) × has c.cut.new.self k l =
    λ usable kept loose h. cut_parts g.F.JournalFile.has c.cut.new.self c.in_ok-recovered.recovered.offset kept loose (c.in_err-cut.ensures.err usable kept loose h) in
    search (rules, inner)

pub returns-in_err-own-clause-refused : goal.returns-in_err-own-clause-refused
returns-in_err-own-clause-refused g c =
    let inner = memory_of_legal c.args.config.now c.requires.legal in
    search (rules, inner)

pub returns-clause-ok : goal.returns-clause-ok
returns-clause-ok g c =
    let r = c.in_ok-recovered.ensures.ok in
    let config = c.args.config.now in (
      r.0,
      r.1,
      r.2,
      record {
        own = c.in_ok-own.ensures.ok;
        told = r.3.told;
        tells = r.3.tells;
        knows = r.3.knows;
        reads = r.3.reads;
        represents = λ base is.
            let acts = acts_before base ++ acts_of r.1 in
            of_version config c.in_ok-recovered.recovered.version acts c.from_version.result r.3.same (c.from_version.ensures acts (r.3.stands base is));
        offset = r.3.offset;
      },
    )
