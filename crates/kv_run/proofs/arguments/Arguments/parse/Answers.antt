use Rattle.std.proofs.Common.{◌≡◌, List, ap, sym, subst, map, option_map, ◌∙◌, codes, string_bytes}
use Rattle.std.proofs.lemmas.Result.{err_from_is_err_and}
use Rattle.std.specs.Option.{unwrap_or}
use Rattle.std.specs.contracts.prelude.U64FromStr.TheImpl as reader
use Rattle.std.specs.contracts.prelude.BoolFromStr.TheImpl as flag_reader
use Rattle.clap.specs.Faults.{fault_of, is_simple_and_free}
use Rattle.clap.specs.Kinds.{HasKind}
use Rattle.clap.specs.Matches.{found_of, one_text}
use Rattle.clap.specs.Simple.{is_simple, matches_of}
use Rattle.clap.specs.Walk.{Row, Text, rows_of, first_of, one_of}
use Rattle.clap.proofs.WalkLemmas.{first_value-rows, one_text-rows}
use Rattle.kv_run.specs.Arguments.{form_asked, form_of, number_in, program_app, race_of, text_in, word_of}
use Rattle.kv_run.proofs.ArgumentOptions.{flag_given, number_found, program_is_free, program_is_simple, unwrap_text}
use Rattle.kv_run.proofs.arguments.Arguments.parse.Goals as goal

pub returns : goal.returns
returns c =
    let words = map string_bytes c.args.words.now in
    let found = found_of c.in_ok-matches.matches in
    let given : List Row = matches_of program_app words in
    let app = c.in_ok-command.ensures in
    let rows : rows_of found ≡ given = (c.in_ok-matches.ensures.matches (ap is_simple app ∙ program_is_simple)).0 ∙ ap (λ a. matches_of a words) app in
    let read : (id : Text) → one_text found id ≡ one_of id given = λ id. one_text-rows found id ∙ ap (one_of id) rows in
    let bucket : c.unwrap_or.result.now ≡ text_in (codes "bucket") (codes "kv") given =
    ap (λ s. s.now) c.unwrap_or.ensures ∙ unwrap_text c.get_str.result _
    ∙ ap (λ o. unwrap_or o (codes "kv")) (c.get_str.ensures ∙ first_value-rows found (codes "bucket") ∙ ap (first_of (codes "bucket")) rows) in
    let history : c.number_given.result ≡ number_in (codes "history") 1 given =
    c.number_given.ensures ∙ ap (number_in (codes "history") 1) rows in
    let value_limit : c.number_given-2.result ≡ number_in (codes "value-limit") 1048576 given =
    c.number_given-2.ensures ∙ ap (number_in (codes "value-limit") 1048576) rows in
    let write_limit : c.number_given-3.result ≡ number_in (codes "write-limit") 1000000 given =
    c.number_given-3.ensures ∙ ap (number_in (codes "write-limit") 1000000) rows in
    let revision_limit : c.number_given-4.result ≡ number_in (codes "revision-limit") 4294967295 given =
    c.number_given-4.ensures ∙ ap (number_in (codes "revision-limit") 4294967295) rows in
    let race : c.get_one.result ≡ race_of words =
    number_found {gives = reader.ghosts.from_str_gives} _ c.get_one.result
    (λ none. c.get_one.ensures.none (read (codes "race") ∙ none)) (λ text some. c.get_one.ensures.value text (read (codes "race") ∙ some)) (λ _ _ parsed. parsed.0) in
    let form : c.form_asked.result ≡ form_of words =
    c.form_asked.ensures ∙ ap form_asked (c.unwrap_or-2.ensures ∙ flag_given {gives = flag_reader.ghosts.from_str_gives} _ c.get_one-2.result
    (λ none. c.get_one-2.ensures.none (read (codes "text") ∙ none)) (λ text some. c.get_one-2.ensures.value text (read (codes "text") ∙ some)) (λ _ _ parsed. parsed)) in
    let journal : option_map (λ s. s.now) c.get_str-2.result ≡ word_of (codes "journal") words =
    c.get_str-2.ensures ∙ first_value-rows found (codes "journal") ∙ ap (first_of (codes "journal")) rows in
    let sync : option_map (λ s. s.now) c.get_str-3.result ≡ word_of (codes "sync") words =
    c.get_str-3.ensures ∙ first_value-rows found (codes "sync") ∙ ap (first_of (codes "sync")) rows in
    let dump : option_map (λ s. s.now) c.get_str-4.result ≡ word_of (codes "dump") words =
    c.get_str-4.ensures ∙ first_value-rows found (codes "dump") ∙ ap (first_of (codes "dump")) rows in (
      ap (λ a. fault_of a words) (sym app) ∙ c.in_ok-matches.ensures.kinds (ap is_simple_and_free app ∙ program_is_free),
      λ i. record {
        config = record { bucket = bucket i; history = history i; value_limit = value_limit i; write_limit = write_limit i; revision_limit = revision_limit i };
        race = race i;
        form = form i;
        journal = journal i;
        sync = sync i;
        dump = dump i;
      },
    )

pub returns-in_err-matches : goal.returns-in_err-matches
returns-in_err-matches c =
    let words = map string_bytes c.args.words.now in
    let app = c.in_ok-command.ensures in
    let kept = err_from_is_err_and c.from_residual-in_err-matches.result c.from_residual-in_err-matches.ensures.1 in
    rw (kept.1, kept.2) (subst (λ a. HasKind (fault_of a words) c.in_err-matches.field-0.0) app (c.in_err-matches.ensures.kinds (ap is_simple_and_free app ∙ program_is_free)))
