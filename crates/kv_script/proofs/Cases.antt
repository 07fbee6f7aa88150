-- The texts of answers and the words of values at small examples, by computation.
use Rattle.std.proofs.Common.{◌≡◌, ◌∷◌, [], false, Some, None, Ok, Err, codes, refl}
use Rattle.base64.proofs.OnLiterals.{base64_on_literals}
use Rattle.hex.proofs.OnLiterals.{hex_on_literals}
use Rattle.std.proofs.lemmas.Str.{is_utf8-from_IsUtf8}
use Rattle.json.specs.Print.{escape_byte}
use Rattle.json.proofs.Printed.Utf8.{IsUtf8-are_ascii}
use Rattle.std.specs.Fmt.{digits}
use Rattle.kv_keys.specs.Grammar.{is_key}
use Rattle.kv_keys.specs.declared.error.KvError.TheVariants.{BadCommand, BadFloor, Lagged, WatchBehind, WrongLastRevision}
use Rattle.kv_model.specs.declared.write.Op.TheVariants.{Delete, Put}
use Rattle.kv_model.specs.Requests.{create, put, update}
use Rattle.kv_script.specs.Commands.{Batch, Compact, Get, line_write, Take, Write, command_in, named_command, present_words_command, text_command}
use Rattle.kv_script.specs.declared.form.Form.TheVariants.{Base64, Text}
use Rattle.kv_script.specs.Line.{line}
use Rattle.kv_script.specs.Text.{compacted_text, empty_text, entry_text, history_text, keys_text, marker_text, place_text, refusal_text, revision_text, sealed_text, status_text, stopped_text, taken_entry_text, told_text, watch_text, revisions_text, batch_refusal_text, revisions_behind, worker_refusal_text}
use Rattle.kv_script.specs.Words.{number_of, value_of, words_of}

revision : revision_text 12 ≡ line (codes "{\"revision\":12}")
unfolding revision_text digits escape_byte
revision = refl

sealed : sealed_text ≡ line (codes "{\"sealed\":true}")
unfolding sealed_text
sealed = refl

compacted : compacted_text 4 ≡ line (codes "{\"compacted\":4}")
unfolding compacted_text digits escape_byte
compacted = refl

entry : entry_text Base64 (record { key = codes "a"; op = Put; revision = 1; size = 1; value = Some (codes "1") }) ≡ line (codes "{\"key\":\"a\",\"op\":\"PUT\",\"revision\":1,\"size\":1,\"value\":\"MQ==\"}")
unfolding entry_text base64_on_literals digits escape_byte
entry = refl

entry_of_nothing : entry_text Base64 (record { key = codes "a"; op = Put; revision = 1; size = 0; value = Some [] }) ≡ line (codes "{\"key\":\"a\",\"op\":\"PUT\",\"revision\":1,\"size\":0,\"value\":\"\"}")
unfolding entry_text base64_on_literals digits escape_byte
entry_of_nothing = refl

entry_in_text : entry_text Text (record { key = codes "a"; op = Put; revision = 1; size = 4; value = Some (codes "1 \"\n") }) ≡ line (codes "{\"key\":\"a\",\"op\":\"PUT\",\"revision\":1,\"size\":4,\"value\":\"1 \\\"\\n\"}")
unfolding entry_text digits escape_byte
entry_in_text = rw (is_utf8-from_IsUtf8 _ (IsUtf8-are_ascii (codes "1 \"\n") refl)) refl

history : history_text Base64 (record { key = codes "a"; op = Delete; revision = 2; size = 0; value = None } ∷ []) ≡ line (codes "{\"entries\":[{\"key\":\"a\",\"op\":\"DEL\",\"revision\":2,\"size\":0}]}")
unfolding history_text digits escape_byte
history = refl

keys : keys_text (codes "a" ∷ codes "b.c" ∷ []) ≡ line (codes "{\"keys\":[\"a\",\"b.c\"]}")
unfolding keys_text digits escape_byte
keys = refl

watch : watch_text 3 ≡ line (codes "{\"watch\":3}")
unfolding watch_text digits escape_byte
watch = refl

taken : taken_entry_text Base64 1 (record { key = codes "a"; op = Delete; revision = 2; size = 0; value = None }) ≡ line (codes "{\"key\":\"a\",\"op\":\"DEL\",\"revision\":2,\"size\":0,\"watch\":1}")
unfolding taken_entry_text digits escape_byte
taken = refl

marker : marker_text 1 ≡ line (codes "{\"marker\":true,\"watch\":1}")
unfolding marker_text digits escape_byte
marker = refl

empty : empty_text 1 ≡ line (codes "{\"empty\":true,\"watch\":1}")
unfolding empty_text digits escape_byte
empty = refl

stopped : stopped_text 1 2 ≡ line (codes "{\"handed\":2,\"stopped\":1}")
unfolding stopped_text digits escape_byte
stopped = refl

status : status_text (codes "kv") (record { history = 1; last = 4; stored = 4; values = 2; sealed = false }) 0 ≡ line (codes "{\"bucket\":\"kv\",\"history\":1,\"last\":4,\"sealed\":false,\"stored\":4,\"values\":2,\"watches\":0}")
unfolding status_text digits escape_byte
status = refl

place : place_text 0xe40c292c ≡ line (codes "{\"place\":\"e40c292c\"}")
unfolding place_text hex_on_literals digits escape_byte
place = refl

refusal : refusal_text BadCommand ≡ line (codes "{\"code\":16,\"error\":\"BadCommand\"}")
unfolding refusal_text digits escape_byte
refusal = refl

stale : refusal_text (WrongLastRevision 2) ≡ line (codes "{\"code\":11,\"error\":\"WrongLastRevision\",\"last\":2}")
unfolding refusal_text digits escape_byte
stale = refl

bad_floor : refusal_text BadFloor ≡ line (codes "{\"code\":19,\"error\":\"BadFloor\"}")
unfolding refusal_text digits escape_byte
bad_floor = refl

behind : refusal_text (WatchBehind 3) ≡ line (codes "{\"code\":20,\"error\":\"WatchBehind\",\"watch\":3}")
unfolding refusal_text digits escape_byte
behind = refl

lagged : refusal_text (Lagged 7) ≡ line (codes "{\"code\":21,\"error\":\"Lagged\",\"floor\":7}")
unfolding refusal_text digits escape_byte
lagged = refl

told : told_text 2 5 ≡ line (codes "{\"revision\":5,\"worker\":2}")
unfolding told_text digits escape_byte
told = refl

worker_refusal : worker_refusal_text 1 (WrongLastRevision 0) ≡ line (codes "{\"code\":11,\"error\":\"WrongLastRevision\",\"last\":0,\"worker\":1}")
unfolding worker_refusal_text digits escape_byte
worker_refusal = refl

revisions : revisions_text (revisions_behind 2 3) ≡ line (codes "{\"revisions\":[3,4,5]}")
unfolding revisions_text digits escape_byte
revisions = refl

no_revisions : revisions_text [] ≡ line (codes "{\"revisions\":[]}")
unfolding revisions_text digits escape_byte
no_revisions = refl

batch_refusal : batch_refusal_text 2 (WrongLastRevision 0) ≡ line (codes "{\"at\":2,\"code\":11,\"error\":\"WrongLastRevision\",\"last\":0}")
unfolding batch_refusal_text digits escape_byte
batch_refusal = refl

-- words
value : value_of (codes "MQ==") ≡ Some (codes "1")
unfolding base64_on_literals
value = refl

value_unpadded : value_of (codes "MQ") ≡ None
unfolding base64_on_literals
value_unpadded = refl

value_with_stray_bits : value_of (codes "MR==") ≡ None
unfolding base64_on_literals
value_with_stray_bits = refl

number : number_of (codes "007") ≡ Some 7
number = refl

number_with_sign : number_of (codes "+7") ≡ None
number_with_sign = refl

-- lines
get_line : present_words_command (words_of (codes "get a.b")) ≡ Ok (Get (codes "a.b"))
unfolding named_command is_key
get_line = refl

take_line : present_words_command (words_of (codes "take 1 9")) ≡ Ok (Take 1 9)
unfolding named_command
take_line = refl

compact_line : present_words_command (words_of (codes "compact 0012")) ≡ Ok (Compact 12)
unfolding named_command
compact_line = refl

compact_without_floor : present_words_command (words_of (codes "compact")) ≡ Err BadCommand
unfolding named_command
compact_without_floor = refl

compact_with_a_word : present_words_command (words_of (codes "compact x")) ≡ Err BadCommand
unfolding named_command
compact_with_a_word = refl

batch_line : present_words_command (words_of (codes "batch 02")) ≡ Ok (Batch 2)
unfolding named_command
batch_line = refl

batch_without_number : present_words_command (words_of (codes "batch two")) ≡ Err BadCommand
unfolding named_command
batch_without_number = refl

-- a read in a batch is no command, whatever its key
read_in_batch : line_write Base64 (codes "get .a") ≡ Err BadCommand
unfolding line_write
read_in_batch = refl

two_spaces : present_words_command (words_of (codes "get  a")) ≡ Err BadCommand
two_spaces = refl

-- lines in text
put_line : command_in Text (words_of (codes "put a  b c ")) ≡ Ok (Write (put (codes "a") (codes " b c ")))
unfolding text_command is_key
put_line = refl

create_line : command_in Text (words_of (codes "create a ")) ≡ Ok (Write (create (codes "a") []))
unfolding text_command is_key
create_line = refl

update_line : command_in Text (words_of (codes "update a 7 b c")) ≡ Ok (Write (update (codes "a") (codes "b c") 7))
unfolding text_command is_key
update_line = refl

no_value : command_in Text (words_of (codes "put a")) ≡ Err BadCommand
unfolding text_command
no_value = refl

two_spaces_before_key : command_in Text (words_of (codes "put  a b")) ≡ Err BadCommand
unfolding text_command
two_spaces_before_key = refl

get_line_in_text : command_in Text (words_of (codes "get a.b")) ≡ Ok (Get (codes "a.b"))
unfolding text_command named_command is_key
get_line_in_text = refl
