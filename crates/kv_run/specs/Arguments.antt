-- What the words of a command line ask for: the program's name, and then options with their values.
use Rattle.std.specs.Prelude.{◌≡◌, ℕ, ◌^◌, ◌&&◌, is_none, nat_lt, Bool, true, false, if◌then◌else◌, List, [], ◌∷◌, length, Option, Some, None, option_and_then, codes, bytes_eq, unwrap_or}
use Rattle.std.specs.Char.{digit_value}
use Rattle.std.specs.List.{list_all}
use Rattle.std.specs.Option.{option_map_or}
use Rattle.std.specs.Str.Parse.{digits_value, without_leading_plus}
use Rattle.clap.specs.Faults.{fault_of}
use Rattle.clap.specs.Kinds.{Kinds}
use Rattle.clap.specs.Walk.{Rule, Row, Text, first_of, one_of}
use Rattle.clap.specs.Simple.{App, matches_of, new_app, new_rule, on_top, with_rule}
use Rattle.clap.specs.declared.builder.action.ArgAction.TheVariants.{Set, SetTrue}
use Rattle.clap.specs.declared.builder.value_parser.ValueParser.TheVariants as parsers
use Rattle.kv_model.specs.Configuration.{Configuration}
use Rattle.kv_script.specs.declared.form.Form.{Form}
use Rattle.kv_script.specs.declared.form.Form.TheVariants as forms

-- an option with a value, which is this one where none is given
abbrev pub text_option : Text → Text → Rule
text_option name default =
    record (new_rule name) { long = Some name; action = Some Set; value_names = 1; defaults = default ∷ [] }

-- one whose value is a number of 64 bits
abbrev pub number_option : Text → Text → Rule
number_option name default =
    record (text_option name default) { parser = Some (parsers.Unsigned 0 18446744073709551615) }

-- how many workers race, which has no value where none is given
abbrev pub race_option : Rule
race_option =
    record (new_rule (codes "race")) {
      long = Some (codes "race");
      action = Some Set;
      value_names = 1;
      parser = Some (parsers.Unsigned 1 16);
    }

-- an option with no value: that values stand as text
abbrev pub form_option : Rule
form_option = record (new_rule (codes "text")) { long = Some (codes "text"); action = Some SetTrue }

-- an option with a text, which has none where it is not given
abbrev pub word_option : Text → Rule
word_option name = record (new_rule name) { long = Some name; action = Some Set; value_names = 1 }

-- with the options for files: one that keeps the bucket, when that is brought onto the disk, and one whose script is asked for
abbrev pub with_files : App → App
with_files app =
    with_rule (with_rule (with_rule app
    (word_option (codes "journal")))
    (word_option (codes "sync")))
    (word_option (codes "dump"))

-- a program that tells its version
abbrev pub versioned : App → App
versioned app = on_top (λ shape. record shape { has_version = true }) app

-- with an option for each number of a configuration
abbrev pub with_limits : App → App
with_limits app =
    with_rule (with_rule (with_rule (with_rule app
    (number_option (codes "history") (codes "1")))
    (number_option (codes "value-limit") (codes "1048576")))
    (number_option (codes "write-limit") (codes "1000000")))
    (number_option (codes "revision-limit") (codes "4294967295"))

-- the program, and its options
abbrev pub program_app : App
program_app =
    with_files (with_rule (with_rule (with_limits (with_rule (versioned (new_app (codes "kvbucket")))
    (text_option (codes "bucket") (codes "kv"))))
    race_option)
    form_option)

-- why the words are refused, if they are; to ask for help is among the reasons
abbrev pub faults_of : List Text → Kinds
faults_of words = fault_of program_app words

-- the number of a text of digits, perhaps behind a plus sign; another text has none
abbrev pub number_or : ℕ → Text → ℕ
number_or default text =
    let digits = without_leading_plus text in
    if nat_lt 0 (length digits) && list_all (λ d. nat_lt (digit_value d) 10) digits && nat_lt
    (digits_value 10 digits) (2 ^ 64)
    then digits_value 10 digits else default

-- the same, of which another text has none
abbrev pub number_of : Text → Option ℕ
number_of text =
    let digits = without_leading_plus text in
    if nat_lt 0 (length digits) && list_all (λ d. nat_lt (digit_value d) 10) digits && nat_lt
    (digits_value 10 digits) (2 ^ 64)
    then Some (digits_value 10 digits) else None

-- what the options say, by what was given for each, or else is its default
abbrev pub text_in : Text → Text → List Row → Text
text_in name default rows = unwrap_or (first_of name rows) default

abbrev pub number_in : Text → ℕ → List Row → ℕ
number_in name default rows = option_map_or (number_or default) (one_of name rows) default

abbrev pub config_in : List Row → Configuration
config_in rows = record {
  bucket = text_in (codes "bucket") (codes "kv") rows;
  history = number_in (codes "history") 1 rows;
  value_limit = number_in (codes "value-limit") 1048576 rows;
  write_limit = number_in (codes "write-limit") 1000000 rows;
  revision_limit = number_in (codes "revision-limit") 4294967295 rows;
}

-- the configuration that the words ask for
abbrev pub config_of : List Text → Configuration
config_of words = config_in (matches_of program_app words)

-- how many workers race over the script, where the words ask for a race
abbrev pub race_of : List Text → Option ℕ
race_of words = option_and_then number_of (one_of (codes "race") (matches_of program_app words))

-- an option with no value is given where it reads as `true`
abbrev pub is_given : Text → List Row → Bool
is_given name rows = option_map_or (λ text. bytes_eq text (codes "true")) (one_of name rows) false

abbrev pub form_asked : Bool → Form
form_asked true = forms.Text
form_asked false = forms.Base64

-- how values stand: as text where the words ask for it, else in base64
abbrev pub form_of : List Text → Form
form_of words = form_asked (is_given (codes "text") (matches_of program_app words))

-- the text of an option, where it is given
abbrev pub word_of : Text → List Text → Option Text
word_of name words = first_of name (matches_of program_app words)

-- what the words ask for: a configuration, perhaps a race of so many workers, how values stand, and the words of the options for
-- files
pub record Wanted : Type 0 where
  pub config : Configuration
  pub race : Option ℕ
  pub form : Form
  pub journal : Option Text
  pub sync : Option Text
  pub dump : Option Text

-- they speak of no file
abbrev pub is_in_memory : Wanted → Bool
is_in_memory wanted = (is_none wanted.journal && is_none wanted.sync) && is_none wanted.dump

abbrev pub wanted_of : List Text → Wanted
wanted_of words = record {
  config = config_of words;
  race = race_of words;
  form = form_of words;
  journal = word_of (codes "journal") words;
  sync = word_of (codes "sync") words;
  dump = word_of (codes "dump") words;
}

-- where the words are fine, they speak of no file
abbrev pub AreInMemory : List Text → Type 0
AreInMemory words = faults_of words ≡ [] → is_in_memory (wanted_of words) ≡ true

-- a configuration alone, with no race, values in base64, and no file
abbrev pub alone : Configuration → Wanted
alone config = record {
  config = config;
  race = None;
  form = forms.Base64;
  journal = None;
  sync = None;
  dump = None;
}

-- the configuration where no option is given
abbrev pub defaults : Configuration
defaults = record {
  bucket = codes "kv";
  history = 1;
  value_limit = 1048576;
  write_limit = 1000000;
  revision_limit = 4294967295;
}
