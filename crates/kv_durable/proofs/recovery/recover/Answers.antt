use Rattle.std.proofs.Common.{◌≡◌, rules, ℕ, List, length, sym, ap, ◌∙◌, subst, arith}
use Rattle.kv_model.specs.Configuration.{Configuration, IsLegal}
use Rattle.kv_journal.specs.Header.{configuration_payload}
use Rattle.kv_journal.specs.Damage.{ShowsDamage}
use Rattle.kv_journal.specs.Entries.{AreLawful, Entry}
use Rattle.kv_durable.specs.Bases.{Base, acts_before}
use Rattle.kv_durable.specs.Files.{Reads, file_of}
use Rattle.kv_durable.specs.Refusals.{IsDamaged}
use Rattle.kv_durable.proofs.Readings.{end_there, no_start, read_begins, reads_from, stands, tells, within_front}
use Rattle.kv_durable.proofs.Rereading.{both_show, found}
use Rattle.kv_durable.proofs.recovery.recover.Goals as goal

pub returns-in_err-begun-clause-damaged : goal.returns-in_err-begun-clause-damaged
returns-in_err-begun-clause-damaged c =
    let config = c.args.config.now in
    let bytes = c.args.bytes.now in
    let empty = c.in_ok-empty.ensures.ok in
    let legal = subst IsLegal empty.0 empty.1.legal in
    let inner : IsDamaged c.in_err-begun.field-0.0 → (base : Base) (seed : ℕ) (entries : List Entry) (rest : List ℕ) → base.config ≡ config → Reads base bytes seed entries rest → ShowsDamage seed (length (file_of seed base entries)) rest =
    λ is base seed entries rest same read.
    let begins = read_begins base bytes seed entries rest (subst IsLegal (sym same) legal) read in
    absurd (c.in_err-begun.ensures.damaged is seed (configuration_payload base.config) _ begins) in
    search (rules, inner)

pub returns-in_err-started-clause-damaged : goal.returns-in_err-started-clause-damaged
returns-in_err-started-clause-damaged c =
    let config = c.args.config.now in
    let bytes = c.args.bytes.now in
    let b = c.in_ok-begun.ensures.ok in
    let own = c.in_ok-begun.begun.framing.seed in
    let inner : IsDamaged c.in_err-started.field-0.0 → (base : Base) (seed : ℕ) (entries : List Entry) (rest : List ℕ) → base.config ≡ config → Reads base bytes seed entries rest → ShowsDamage seed (length (file_of seed base entries)) rest =
    λ is base seed entries rest same read.
    absurd (no_start config bytes own c.in_ok-begun.begun.offset c.behind-first.result.now b.0 b.1 b.2 c.behind-first.ensures (c.in_err-started.ensures.no_checkpoint is) (c.in_err-started.ensures.no_entries is) base seed entries rest same read) in
    search (rules, inner)

pub behind-entries-requires : goal.behind-entries-requires
behind-entries-requires c =
    let config = c.args.config.now in
    let bytes = c.args.bytes.now in
    let b = c.in_ok-begun.ensures.ok in
    let own = c.in_ok-begun.begun.framing.seed in
    let at = c.in_ok-begun.begun.offset in
    let s = c.in_ok-started.ensures.ok in
    let started = c.in_ok-started.started in
    omega (arith, within_front config bytes own at c.behind-first.result.now b.0 b.1 b.2 c.behind-first.ensures s.0 s.1 started s.2)

pub returns-in_err-replayed-clause-damaged : goal.returns-in_err-replayed-clause-damaged
returns-in_err-replayed-clause-damaged c =
    let config = c.args.config.now in
    let bytes = c.args.bytes.now in
    let b = c.in_ok-begun.ensures.ok in
    let own = c.in_ok-begun.begun.framing.seed in
    let at = c.in_ok-begun.begun.offset in
    let s = c.in_ok-started.ensures.ok in
    let started = c.in_ok-started.started in
    let offset = started.offset in
    let left = c.behind-entries.result.now in
    let there = stands config bytes own at c.behind-first.result.now b.0 b.1 b.2 c.behind-first.ensures s.0 s.1 started s.2 left c.behind-entries.ensures in
    let tell = tells config bytes own at c.behind-first.result.now b.0 b.1 b.2 c.behind-first.ensures s.0 s.1 started s.2 in
    let inner : IsDamaged c.in_err-replayed.field-0.0 → (base : Base) (seed : ℕ) (entries : List Entry) (rest : List ℕ) → base.config ≡ config → Reads base bytes seed entries rest → ShowsDamage seed (length (file_of seed base entries)) rest =
    λ is base seed entries rest same read.
    let based = tell.read base seed entries rest same read in
    absurd (c.in_err-replayed.ensures.damaged is (acts_before base) entries rest (s.2.stands base based)
    (subst (λ (k : Configuration). AreLawful k (acts_before base) entries) (same ∙ sym s.2.same) read.lawful)
    (reads_from config bytes own s.0 offset left there base based seed entries rest read)) in
    search (rules, inner)

pub behind-rest-requires : goal.behind-rest-requires
behind-rest-requires c =
    let config = c.args.config.now in
    let bytes = c.args.bytes.now in
    let b = c.in_ok-begun.ensures.ok in
    let own = c.in_ok-begun.begun.framing.seed in
    let at = c.in_ok-begun.begun.offset in
    let s = c.in_ok-started.ensures.ok in
    let started = c.in_ok-started.started in
    let offset = started.offset in
    let left = c.behind-entries.result.now in
    let there = stands config bytes own at c.behind-first.result.now b.0 b.1 b.2 c.behind-first.ensures s.0 s.1 started s.2 left c.behind-entries.ensures in
    let r = c.in_ok-replayed.ensures.ok in
    omega (arith, (end_there config bytes own s.0 offset left there r.0 r.1 c.in_ok-replayed.replayed.offset r.2 r.5).0)

pub returns-then-shows_damage-clause-damaged : goal.returns-then-shows_damage-clause-damaged
returns-then-shows_damage-clause-damaged c = λ _ base seed entries rest same read.
    let b = c.in_ok-begun.ensures.ok in
    let s = c.in_ok-started.ensures.ok in
    let r = c.in_ok-replayed.ensures.ok in
    let both = both_show c.args.config.now c.args.bytes.now c.in_ok-begun.begun.framing.seed c.in_ok-begun.begun.offset c.behind-first.result.now b.0 b.1 b.2 c.behind-first.ensures s.0 s.1 c.in_ok-started.started s.2
    c.behind-entries.result.now c.behind-entries.ensures r.0 r.1 c.in_ok-replayed.replayed.offset c.behind-rest.result.now r.2 r.4 r.5 c.behind-rest.ensures
    (subst IsLegal c.in_ok-empty.ensures.ok.0 c.in_ok-empty.ensures.ok.1.legal) base seed entries rest same read in
    both.0 (c.shows_damage.ensures.yes c.if-shows_damage.true)

pub returns-clause-ok : goal.returns-clause-ok
returns-clause-ok c =
    let b = c.in_ok-begun.ensures.ok in
    let s = c.in_ok-started.ensures.ok in
    let r = c.in_ok-replayed.ensures.ok in
    let f = found c.args.config.now c.args.bytes.now c.in_ok-begun.begun.framing.seed c.in_ok-begun.begun.offset c.behind-first.result.now b.0 b.1 b.2 c.behind-first.ensures s.0 s.1 c.in_ok-started.started s.2
    c.behind-entries.result.now c.behind-entries.ensures r.0 r.1 c.in_ok-replayed.replayed.offset c.behind-rest.result.now r.2 r.4 r.5 c.behind-rest.ensures in (
      s.0,
      r.0,
      r.1,
      record {
        same = r.3.config ∙ s.2.same;
        told = ap (λ (w : List ℕ). length w) f.behind;
        tells = f.tells;
        knows = s.2.knows;
        reads = f.read;
        stands = λ base is. r.3.on (acts_before base) (s.2.stands base is);
        offset = f.here;
      },
    )

pub returns-clause-torn : goal.returns-clause-torn
returns-clause-torn c = λ base seed entries rest same read shows.
    let b = c.in_ok-begun.ensures.ok in
    let s = c.in_ok-started.ensures.ok in
    let r = c.in_ok-replayed.ensures.ok in
    let both = both_show c.args.config.now c.args.bytes.now c.in_ok-begun.begun.framing.seed c.in_ok-begun.begun.offset c.behind-first.result.now b.0 b.1 b.2 c.behind-first.ensures s.0 s.1 c.in_ok-started.started s.2
    c.behind-entries.result.now c.behind-entries.ensures r.0 r.1 c.in_ok-replayed.replayed.offset c.behind-rest.result.now r.2 r.4 r.5 c.behind-rest.ensures
    (subst IsLegal c.in_ok-empty.ensures.ok.0 c.in_ok-empty.ensures.ok.1.legal) base seed entries rest same read in
    c.shows_damage.ensures.no c.if-shows_damage.false (both.1 shows)
