use Rattle.std.proofs.Common.{◌≡◌, rules, tests, ap, sym, ◌∙◌, find, option_map}
use Rattle.std.specs.Option.{option_and_then}
use Rattle.std.proofs.lemmas.Iterator.{YieldsList-from_slice}
use Rattle.std.proofs.lemmas.Iterator.Search.{find_from_yields_List}
use Rattle.kv_script.specs.Choices.{is_from, from_of}
use Rattle.kv_script.specs.Commands.{texts}
use Rattle.kv_script.proofs.Texts.{find_texts}
use Rattle.kv_script.proofs.parsing.choices.from_among.Goals as goal

pub returns-in-Some : goal.returns-in-Some
returns-in-Some c =
    let found = find_from_yields_List (λ w. is_from w.now) _ _ c.find.result c.find.ensures.ran (YieldsList-from_slice _ c.iter.ensures.rest) (λ x b q k. search (rules, tests)) in
    let all : option_map (λ w. w.now) (option_map (λ w. w.now) c.find.result) ≡ find is_from (texts c.args.words.now) =
    ap (option_map (λ w. w.now)) found ∙ find_texts is_from c.args.words.now in
    c.from_of.ensures
    ∙ ap (λ r. option_and_then from_of (option_map (λ w. w.now) (option_map (λ w. w.now) r))) (sym c.in-Some.is)
    ∙ ap (option_and_then from_of) all

pub returns-in-None : goal.returns-in-None
returns-in-None c =
    let found = find_from_yields_List (λ w. is_from w.now) _ _ c.find.result c.find.ensures.ran (YieldsList-from_slice _ c.iter.ensures.rest) (λ x b q k. search (rules, tests)) in
    let all : option_map (λ w. w.now) (option_map (λ w. w.now) c.find.result) ≡ find is_from (texts c.args.words.now) =
    ap (option_map (λ w. w.now)) found ∙ find_texts is_from c.args.words.now in
    ap (λ r. option_and_then from_of (option_map (λ w. w.now) (option_map (λ w. w.now) r))) (sym c.in-None.is) ∙ ap (option_and_then from_of) all
