-- What a line of a script asks for.
use Rattle.std.specs.Prelude.{◌≡◌, ℕ, ◌==◌, ◌&&◌, ◌||◌, nat_le, nat_eq, Bool, true, if◌then◌else◌, List, [], ◌∷◌, map, length, slice_index_or, codes, bytes_eq, ⊤, Option, Some, None, option_map, option_and_then, Result, Ok, Err}
use Rattle.std.specs.Borrow.{Bor}
use Rattle.std.specs.List.{join_with_byte, list_all, starts_with}
use Rattle.std.specs.Result.{result_map_both}
use Rattle.std.specs.Str.{is_utf8}
use Rattle.kv_keys.specs.Grammar.{is_present, is_key, parts, are_filters}
use Rattle.kv_keys.specs.declared.error.KvError.{KvError}
use Rattle.kv_keys.specs.declared.error.KvError.TheVariants.{OutOfMemory, BadKey, BadFilter, BadCommand}
use Rattle.kv_model.specs.Requests.{Asked, asked, put, create, update, delete, purge}
use Rattle.kv_model.specs.declared.options.Options.{Options}
use Rattle.kv_model.specs.declared.request.Request.{Request}
use Rattle.kv_script.specs.Words.{words_of, number_of, value_of}
use Rattle.kv_script.specs.Choices.{are_options, options_of}
use Rattle.kv_script.specs.declared.parsing.command.Command.{Command}
use Rattle.kv_script.specs.declared.parsing.command.Command.TheVariants as commands
use Rattle.kv_script.specs.declared.form.Form.{Form}
use Rattle.kv_script.specs.declared.form.Form.TheVariants.{Base64, Text}

-- a command without where its parts lie in memory
pub data Meaning : Type 0 where
  Write : (asked : Asked) → Meaning
  Get : (key : List ℕ) → Meaning
  GetAt : (key : List ℕ) → (revision : ℕ) → Meaning
  History : (key : List ℕ) → Meaning
  Keys : (filters : List (List ℕ)) → Meaning
  Watch : (filters : List (List ℕ)) → (options : Options) → Meaning
  Take : (watch count : ℕ) → Meaning
  Stop : (watch : ℕ) → Meaning
  Status : Meaning
  Seal : Meaning
  Compact : (floor : ℕ) → Meaning
  Place : (key : List ℕ) → Meaning
  Batch : (count : ℕ) → Meaning

abbrev pub meaning_of : Command → Meaning
meaning_of (commands.Write request) = Write (asked request)
meaning_of (commands.Get key) = Get key
meaning_of (commands.GetAt key revision) = GetAt key revision
meaning_of (commands.History key) = History key
meaning_of (commands.Keys filters) = Keys filters
meaning_of (commands.Watch filters options) = Watch filters options
meaning_of (commands.Take watch count) = Take watch count
meaning_of (commands.Stop watch) = Stop watch
meaning_of commands.Status = Status
meaning_of commands.Seal = Seal
meaning_of (commands.Compact floor) = Compact floor
meaning_of (commands.Place key) = Place key
meaning_of (commands.Batch count) = Batch count

-- a line without its end is skipped where it is empty, or begins with `#`
abbrev pub is_skipped : List ℕ → Bool
is_skipped [] = true
is_skipped (byte ∷ bytes) = byte == 35

-- word i, which is empty past the end
abbrev pub word : List (List ℕ) → ℕ → List ℕ
word words i = slice_index_or words i []

-- where there is no such number, value or choice, the line is no command
abbrev pub or_bad_command : {X : Type 0} → Option X → (X → Result Meaning KvError) → Result Meaning KvError
or_bad_command {X} None go = Err BadCommand
or_bad_command {X} (Some x) go = go x

-- only then the key is read
abbrev pub for_key : List ℕ → Meaning → Result Meaning KvError
for_key key meaning = if is_key key then Ok meaning else Err BadKey

-- likewise the filters, with a comma between two
abbrev pub for_filters : List ℕ → (List (List ℕ) → Result Meaning KvError) → Result Meaning KvError
for_filters text go = if are_filters (parts text) then go (parts text) else Err BadFilter

-- no number, or one
abbrev pub optional_number : List (List ℕ) → Option (Option ℕ)
optional_number words =
    if length words == 0 then Some None
    else if length words == 1 then option_map Some (number_of (word words 0))
    else None

-- put K B, create K B
abbrev pub put_command : (List ℕ → List ℕ → Asked) → List (List ℕ) → Result Meaning KvError
put_command makes arguments =
    if length arguments == 2
    then or_bad_command (value_of (word arguments 1))
    (λ value. for_key (word arguments 0) (Write (makes (word arguments 0) value)))
    else Err BadCommand

-- update K R B
abbrev pub update_command : List (List ℕ) → Result Meaning KvError
update_command arguments =
    if length arguments == 3
    then or_bad_command (number_of (word arguments 1)) (λ last. or_bad_command (value_of (word arguments 2)) (λ value.
    for_key (word arguments 0) (Write (update (word arguments 0) value last))))
    else Err BadCommand

-- delete K [R], purge K [R]
abbrev pub delete_command : (List ℕ → Option ℕ → Asked) → List (List ℕ) → Result Meaning KvError
delete_command makes [] = Err BadCommand
delete_command makes (key ∷ words) = or_bad_command (optional_number words)
    (λ last. for_key key (Write (makes key last)))

-- a key as it is now, or at a revision
abbrev pub get_or_get_at : List ℕ → Option ℕ → Meaning
get_or_get_at key None = Get key
get_or_get_at key (Some revision) = GetAt key revision

-- get K [R]
abbrev pub get_command : List (List ℕ) → Result Meaning KvError
get_command [] = Err BadCommand
get_command (key ∷ words) = or_bad_command (optional_number words)
    (λ revision. for_key key (get_or_get_at key revision))

-- history K, place K
abbrev pub key_command : (List ℕ → Meaning) → List (List ℕ) → Result Meaning KvError
key_command makes arguments =
    if length arguments == 1 then for_key (word arguments 0) (makes (word arguments 0)) else Err BadCommand

-- keys F[,F..]
abbrev pub keys_command : List (List ℕ) → Result Meaning KvError
keys_command arguments =
    if length arguments == 1 then for_filters (word arguments 0) (λ filters. Ok (Keys filters)) else Err BadCommand

-- watch F[,F..] and options, which are read last of all
abbrev pub watch_command : List (List ℕ) → Result Meaning KvError
watch_command [] = Err BadCommand
watch_command (filters ∷ words) =
    if are_options words
    then for_filters filters (λ read. result_map_both (Watch read) (λ error. error) (options_of words))
    else Err BadCommand

-- 1 to 1,000,000 takes
abbrev pub take_count : List ℕ → Option ℕ
take_count word = option_and_then (λ n. if nat_le 1 n && nat_le n 1000000 then Some n else None) (number_of word)

-- take ID N
abbrev pub take_command : List (List ℕ) → Result Meaning KvError
take_command arguments =
    if length arguments == 2
    then or_bad_command (number_of (word arguments 0))
    (λ watch. or_bad_command (take_count (word arguments 1)) (λ count. Ok (Take watch count)))
    else Err BadCommand

-- stop ID, compact R, batch N
abbrev pub number_command : (ℕ → Meaning) → List (List ℕ) → Result Meaning KvError
number_command makes arguments =
    if length arguments == 1 then or_bad_command (number_of (word arguments 0)) (λ number. Ok (makes number)) else
    Err BadCommand

-- status, seal
abbrev pub lone_command : Meaning → List (List ℕ) → Result Meaning KvError
lone_command meaning arguments = if length arguments == 0 then Ok meaning else Err BadCommand

-- the first word names the command
unfoldable pub named_command : List ℕ → List (List ℕ) → Result Meaning KvError
named_command name arguments =
    if bytes_eq name (codes "put") then put_command put arguments
    else if bytes_eq name (codes "create") then put_command create arguments
    else if bytes_eq name (codes "update") then update_command arguments
    else if bytes_eq name (codes "delete") then delete_command delete arguments
    else if bytes_eq name (codes "purge") then delete_command purge arguments
    else if bytes_eq name (codes "get") then get_command arguments
    else if bytes_eq name (codes "history") then key_command History arguments
    else if bytes_eq name (codes "keys") then keys_command arguments
    else if bytes_eq name (codes "watch") then watch_command arguments
    else if bytes_eq name (codes "take") then take_command arguments
    else if bytes_eq name (codes "stop") then number_command Stop arguments
    else if bytes_eq name (codes "status") then lone_command Status arguments
    else if bytes_eq name (codes "seal") then lone_command Seal arguments
    else if bytes_eq name (codes "compact") then number_command Compact arguments
    else if bytes_eq name (codes "place") then key_command Place arguments
    else if bytes_eq name (codes "batch") then number_command Batch arguments
    else Err BadCommand

abbrev pub words_command : List (List ℕ) → Result Meaning KvError
words_command [] = Err BadCommand
words_command (name ∷ arguments) = named_command name arguments

-- no word is empty: one space between two words, none before the first and none after the last
abbrev pub present_words_command : List (List ℕ) → Result Meaning KvError
present_words_command words = if list_all is_present words then words_command words else Err BadCommand

-- words as they stood in their line, a space between two
abbrev pub as_they_stood : List (List ℕ) → List ℕ
as_they_stood words = join_with_byte 32 words

-- put K VALUE, create K VALUE, in text: the value is all words behind the key, as they stood in the line, and there has
-- to be one
abbrev pub put_text_command : (List ℕ → List ℕ → Asked) → List (List ℕ) → Result Meaning KvError
put_text_command makes (key ∷ first ∷ more) =
    if is_present key then for_key key (Write (makes key (as_they_stood (first ∷ more)))) else Err BadCommand
put_text_command makes words = Err BadCommand

-- update K R VALUE, in text: the value is all words behind the number
abbrev pub update_text_command : List (List ℕ) → Result Meaning KvError
update_text_command (key ∷ number ∷ first ∷ more) =
    if is_present key
    then or_bad_command (number_of number) (λ last. for_key key
    (Write (update key (as_they_stood (first ∷ more)) last)))
    else Err BadCommand
update_text_command words = Err BadCommand

-- in text the words of a value may be empty, and no others; what has no value is read as ever
unfoldable pub text_command : List (List ℕ) → Result Meaning KvError
text_command [] = Err BadCommand
text_command (name ∷ arguments) =
    if bytes_eq name (codes "put") then put_text_command put arguments
    else if bytes_eq name (codes "create") then put_text_command create arguments
    else if bytes_eq name (codes "update") then update_text_command arguments
    else present_words_command (name ∷ arguments)

-- the command of words, by how values stand
abbrev pub command_in : Form → List (List ℕ) → Result Meaning KvError
command_in Base64 words = present_words_command words
command_in Text words = text_command words

-- a command is text of at most 1,400,000 bytes
abbrev pub is_within_limits : List ℕ → Bool
is_within_limits line = is_utf8 line && nat_le (length line) 1400000

-- what a line asks for that is not skipped, or why it is refused
unfoldable pub line_command : Form → List ℕ → Result Meaning KvError
line_command form line = if is_within_limits line then command_in form (words_of line) else Err BadCommand

-- a line begins with the word of a write, and a space
abbrev pub names_write : List ℕ → Bool
names_write line =
    (((starts_with nat_eq line (codes "put ") || starts_with nat_eq line (codes "create "))
    || starts_with nat_eq line (codes "update "))
    || starts_with nat_eq line (codes "delete "))
    || starts_with nat_eq line (codes "purge ")

abbrev pub write_of : Result Meaning KvError → Result Asked KvError
write_of (Ok (Write asked)) = Ok asked
write_of (Ok meaning) = Err BadCommand
write_of (Err error) = Err error

-- the write that a line of a batch asks for, or why it is refused: a line that names no write is no command there,
-- whatever follows its first word
unfoldable pub line_write : Form → List ℕ → Result Asked KvError
line_write form line = if names_write line then write_of (line_command form line) else Err BadCommand

-- the words of a `&[&str]`
abbrev pub texts : List (Bor (List ℕ)) → List (List ℕ)
texts words = map (λ word. word.now) words

-- the error is why the line is refused, unless memory ran out
abbrev pub Fails : {X : Type 0} → KvError → Result X KvError → Type 0
Fails {X} OutOfMemory outcome = ⊤
Fails {X} error outcome = outcome ≡ Err error

-- a result gives what the line asks for, unless memory ran out
abbrev pub Gives : Result Command KvError → Result Meaning KvError → Type 0
Gives (Ok command) outcome = outcome ≡ Ok (meaning_of command)
Gives (Err error) outcome = Fails error outcome

-- likewise for a line of a batch
abbrev pub GivesWrite : Result Request KvError → Result Asked KvError → Type 0
GivesWrite (Ok request) outcome = outcome ≡ Ok (asked request)
GivesWrite (Err error) outcome = Fails error outcome
