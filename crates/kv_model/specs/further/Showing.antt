-- Tests of one write: whether a watch begins with it, and whether it shows it.
use Rattle.std.specs.Prelude.{ℕ, Bool, false, ◌&&◌, not, nat_le, List}
use Rattle.kv_keys.specs.Matching.{any_matches}
use Rattle.kv_model.specs.Acts.{Act, Write, is_put}
use Rattle.kv_model.specs.Retained.{is_kept, is_latest}
use Rattle.kv_model.specs.declared.options.Options.{Options}
use Rattle.kv_model.specs.declared.options.Start.{Start}
use Rattle.kv_model.specs.declared.options.Start.TheVariants.{Latest, History, Updates, From}

-- a watch shows the writes whose keys match, but for markers where its options ignore deletes
abbrev pub is_shown : List (List ℕ) → Options → Write → Bool
is_shown filters options w = any_matches filters w.key && not (options.ignore_deletes && not (is_put w.op))

-- a watch begins with the latest writes, with the kept ones, with none, or with the kept ones from a revision on
abbrev pub is_initial : ℕ → Start → List Act → Write → Bool
is_initial h Latest acts w = is_latest acts w
is_initial h History acts w = is_kept h acts w
is_initial h Updates acts w = false
is_initial h (From revision) acts w = is_kept h acts w && nat_le revision w.revision
