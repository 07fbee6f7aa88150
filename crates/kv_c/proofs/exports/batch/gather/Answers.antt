use Rattle.std.proofs.Common.{◌∙◌, ap, sym}
use Rattle.std.specs.Prelude.{Option}
use Rattle.kv_c.specs.Batching.{and_one, gathered}
use Rattle.kv_c.specs.declared.content.Content.{Content}
use Rattle.kv_c.proofs.exports.batch.gather.Goals as goal

pub returns-in_default-clause-gathered : goal.returns-in_default-clause-gathered
returns-in_default-clause-gathered c = λ zero what is.
    c.begin.ensures.gathered zero what is ∙ ap (λ (held : Option Content). and_one what (gathered held)) (sym c.in_default.ensures.none)
