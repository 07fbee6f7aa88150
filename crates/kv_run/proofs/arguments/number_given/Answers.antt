use Rattle.std.proofs.Common.{◌∙◌}
use Rattle.std.specs.contracts.prelude.U64FromStr.TheImpl as reader
use Rattle.clap.specs.Matches.{found_of}
use Rattle.clap.proofs.WalkLemmas.{one_text-rows}
use Rattle.kv_run.proofs.ArgumentOptions.{option_number}
use Rattle.kv_run.proofs.arguments.number_given.Goals as goal

pub returns : goal.returns
returns c =
    let read = one_text-rows (found_of c.args.matches.now) c.args.name.now in
    c.unwrap_or.ensures ∙ option_number {gives = reader.ghosts.from_str_gives} c.args.default _ c.get_one.result
    (λ none. c.get_one.ensures.none (read ∙ none)) (λ text some. c.get_one.ensures.value text (read ∙ some)) (λ _ _ parsed. parsed.0)
