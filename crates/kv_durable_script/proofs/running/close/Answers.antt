use Rattle.std.proofs.Common.{inl}
use Rattle.kv_durable_script.proofs.running.close.Goals as goal

pub returns-in-Ok-clause-file : goal.returns-in-Ok-clause-file
returns-in-Ok-clause-file g c = λ state kept loose at. inl (c.in-Ok.ensures.ok state kept loose at)
