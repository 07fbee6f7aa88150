use Rattle.std.proofs.Common.{rules, tests, ◌∙◌}
use Rattle.std.proofs.lemmas.Iterator.{YieldsList-from_slice}
use Rattle.std.proofs.lemmas.Iterator.Search.{all_from_yields_List}
use Rattle.kv_script.specs.Choices.{is_option}
use Rattle.kv_script.proofs.Texts.{all_texts}
use Rattle.kv_script.proofs.parsing.choices.all_options.Goals as goal

pub returns : goal.returns
returns c =
    all_from_yields_List (λ w. is_option w.now) _ _ c.all.result c.all.ensures.ran (YieldsList-from_slice _ c.iter.ensures.rest) (λ x b q k. search (rules, tests))
    ∙ all_texts is_option c.args.words.now
