use Rattle.std.proofs.lemmas.Result.{on_err_weaker, on_ok_weaker}
use Rattle.kv_durable.proofs.Readings.{plain_from}
use Rattle.kv_durable_script.proofs.Lawful.{can_dump}
use Rattle.kv_durable_script.proofs.dumping.write_plain.Goals as goal

pub returns-clause-ok : goal.returns-clause-ok
returns-clause-ok g c =
    let config = c.args.config.now in
    let bytes = c.args.bytes.now in
    let b = c.in-Ok.ensures.ok in
    on_ok_weaker c.write_entries.result
    (λ all seed entries rest read.
    all entries rest (plain_from config bytes c.in-Ok.begun.framing.seed c.in-Ok.begun.offset c.behind-entries.result.now b.0 seed entries rest b.1 b.2 c.behind-entries.ensures read) (can_dump config entries c.requires.legal read.lawful))
    c.write_entries.ensures.ok

pub returns-clause-early : goal.returns-clause-early
returns-clause-early g c =
    let config = c.args.config.now in
    let bytes = c.args.bytes.now in
    let b = c.in-Ok.ensures.ok in
    on_err_weaker c.write_entries.result
    (λ all seed entries rest read.
    all entries rest (plain_from config bytes c.in-Ok.begun.framing.seed c.in-Ok.begun.offset c.behind-entries.result.now b.0 seed entries rest b.1 b.2 c.behind-entries.ensures read) (can_dump config entries c.requires.legal read.lawful))
    c.write_entries.ensures.early
