-- Words that are fine one by one, and ask together for nothing that can be done.
use Rattle.std.specs.Prelude.{ℕ, ◌&&◌, ◌||◌, ◌++◌, Bool, true, false, not, if◌then◌else◌, codes, bytes_eq, nat_lt, Option, Some, None, is_none, is_some}
use Rattle.std.specs.Option.{option_map_or}
use Rattle.clap.specs.Walk.{Text}
use Rattle.kv_script.specs.declared.form.Form.{Form}
use Rattle.kv_script.specs.declared.form.Form.TheVariants as forms
use Rattle.kv_run.specs.Arguments.{Wanted, number_of}

abbrev pub is_from_one : Option ℕ → Bool
is_from_one None = false
is_from_one (Some n) = nat_lt 0 n

-- when records are brought onto the disk: each one, at the close, or so many at a time, from 1
abbrev pub is_when : Text → Bool
is_when word = (bytes_eq word (codes "each") || bytes_eq word (codes "close")) || is_from_one (number_of word)

abbrev pub is_text : Form → Bool
is_text forms.Base64 = false
is_text forms.Text = true

-- a race is one in memory
abbrev pub races_on_file : Wanted → Bool
races_on_file wanted = is_some wanted.race && (is_some wanted.journal || is_some wanted.dump)

-- a dump has its values in base64
abbrev pub dumps_as_text : Wanted → Bool
dumps_as_text wanted = is_some wanted.dump && is_text wanted.form

-- a file is either run on or dumped
abbrev pub keeps_and_dumps : Wanted → Bool
keeps_and_dumps wanted = is_some wanted.journal && is_some wanted.dump

-- nothing is there that could be brought onto the disk
abbrev pub syncs_no_file : Wanted → Bool
syncs_no_file wanted = is_some wanted.sync && is_none wanted.journal

abbrev pub syncs_at_no_time : Wanted → Bool
syncs_at_no_time wanted = not (option_map_or is_when wanted.sync true)

-- how the first clash is named, if there is one
abbrev pub clash_of : Wanted → Option Text
clash_of wanted =
    if races_on_file wanted then Some (codes "--race can't be used with --journal or --dump")
    else if dumps_as_text wanted then Some (codes "--dump can't be used with --text")
    else if keeps_and_dumps wanted then Some (codes "--journal can't be used with --dump")
    else if syncs_no_file wanted then Some (codes "--sync needs --journal")
    else if syncs_at_no_time wanted then Some (codes "--sync takes each, close or a number from 1")
    else None

-- what is told of it
abbrev pub clash_text : Text → Text
clash_text clash = codes "error: " ++ clash ++ codes "\n\nFor more information, try '--help'.\n"
