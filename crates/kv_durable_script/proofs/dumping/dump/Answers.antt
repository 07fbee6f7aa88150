use Rattle.std.proofs.Common.{◌≡◌, inl, inr, refl, rules}
use Rattle.kv_keys.specs.declared.error.KvError.TheVariants.{WriteFault}
use Rattle.kv_durable.specs.declared.error.DurableError.TheVariants.{Refused}
use Rattle.std.proofs.lemmas.Result.{err_from_is_err_and}
use Rattle.kv_durable.specs.Bases.{fresh}
use Rattle.kv_durable.proofs.Finding.{is_fresh}
use Rattle.kv_replay.proofs.Progress.{starts}
use Rattle.kv_durable_script.specs.Dumps.{dump_text}
use Rattle.kv_durable_script.proofs.Scripting.{plain_script, stored_script}
use Rattle.kv_durable_script.proofs.dumping.dump.Goals as goal

pub returns-clause-ok : goal.returns-clause-ok
returns-clause-ok g c =
    let config = c.args.config.now in
    let r = c.in_ok-recovered.ensures.ok in
    let plain = c.if-recovered.false in
    let read = r.3.reads (fresh config) (is_fresh config r.0 (r.3.tells.plain plain)) in
    (dump_text r.1, plain_script config c.args.bytes.now r.0 r.1 r.2 c.in_ok-recovered.recovered r.3 plain, r.3.told, c.in_ok-write_plain.ensures.ok _ r.1 r.2 read)

pub returns-then-recovered-clause-ok : goal.returns-then-recovered-clause-ok
returns-then-recovered-clause-ok g c =
    let r = c.in_ok-recovered.ensures.ok in
    let s = c.in_ok-write_stored.ensures.ok in
    (s.0, stored_script c.args.config.now c.args.bytes.now r.0 r.1 r.2 c.in_ok-recovered.recovered r.3 s.0 c.if-recovered.true s.1, r.3.told, s.2)

pub returns-in_err-recovered-clause-write_fault : goal.returns-in_err-recovered-clause-write_fault
returns-in_err-recovered-clause-write_fault g c =
    let never : c.in_err-recovered.field-0.0 ≡ Refused WriteFault → ⊥ =
    λ is. let refused = c.in_err-recovered.ensures.refused WriteFault is in let fine = c.in_ok-check.ensures.ok.1 in let no : ⊥ = cc (refused, fine) in no in
    search (rules, never)

pub returns-in_err-write_plain-clause-early : goal.returns-in_err-write_plain-clause-early
returns-in_err-write_plain-clause-early g c =
    let config = c.args.config.now in
    let r = c.in_ok-recovered.ensures.ok in
    let plain = c.if-recovered.false in
    let read = r.3.reads (fresh config) (is_fresh config r.0 (r.3.tells.plain plain)) in
    let script = plain_script config c.args.bytes.now r.0 r.1 r.2 c.in_ok-recovered.recovered r.3 plain in
    let puts = c.in_err-write_plain.ensures.early _ r.1 r.2 read in
    let why = err_from_is_err_and c.from_residual-in_err-write_plain.result c.from_residual-in_err-write_plain.ensures.1 in
    rw (why.1, why.2) (inr ((_, refl, c.in_err-write_plain.ensures.fault), (dump_text r.1, script, puts.front, starts _ puts.front puts.rest puts.parts, puts.written)))

pub returns-in_err-write_stored-clause-early : goal.returns-in_err-write_stored-clause-early
returns-in_err-write_stored-clause-early g c =
    let r = c.in_ok-recovered.ensures.ok in
    let why = err_from_is_err_and c.from_residual-in_err-write_stored.result c.from_residual-in_err-write_stored.ensures.1 in
    rw (why.1, why.2) (elim c.in_err-write_stored.ensures.early [
      | inl same ↦ inl same
      | inr s ↦
          let script = stored_script c.args.config.now c.args.bytes.now r.0 r.1 r.2 c.in_ok-recovered.recovered r.3 s.0 c.if-recovered.true s.1 in
          inr ((_, refl, c.in_err-write_stored.ensures.fault), (s.0, script, s.2.front, starts _ s.2.front s.2.rest s.2.parts, s.2.written))
    ])
