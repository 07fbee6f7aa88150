-- The script of a file: the commands of its entries, one a line.
use Rattle.std.specs.Prelude.{ℕ, ⊤, Bool, true, false, if◌then◌else◌, List, [], ◌∷◌, ◌++◌, length, map, codes, decimal}
use Rattle.std.specs.List.{list_all}
use Rattle.base64.specs.Engines.{standard}
use Rattle.base64.specs.GeneralPurpose.{IsBytes, encode_of}
use Rattle.kv_model.specs.Acts.{Act, Wrote, Seal, Compact}
use Rattle.kv_model.specs.declared.write.Op.{Op}
use Rattle.kv_model.specs.declared.write.Op.TheVariants.{Put, Delete, Purge}
use Rattle.kv_journal.specs.Entries.{Entry}
use Rattle.kv_journal.specs.Records.{Content, did, did_all, closed}

-- the word of a value: a dash for the empty one, else its base64
abbrev pub value_word : List ℕ → List ℕ
value_word [] = codes "-"
value_word (byte ∷ bytes) = encode_of standard (byte ∷ bytes)

-- the command of a write. A create and an update were accepted, so behind the acts before them a put does the same
abbrev pub write_line : Op → (key value : List ℕ) → List ℕ
write_line Put key value = codes "put " ++ (key ++ 32 ∷ value_word value)
write_line Delete key value = codes "delete " ++ key
write_line Purge key value = codes "purge " ++ key

-- and of another act
abbrev pub act_line : Act → List ℕ
act_line (Wrote w) = write_line w.op w.key w.value
act_line Seal = codes "seal"
act_line (Compact floor) = codes "compact " ++ decimal floor

abbrev pub is_write : Act → Bool
is_write (Wrote w) = true
is_write act = false

-- what says that the next lines are a batch. One of other acts than writes, which no call tells at once, has no command
abbrev pub batch_lines : List Act → List (List ℕ)
batch_lines acts = if list_all is_write acts then (codes "batch " ++ decimal (length acts)) ∷ [] else []

abbrev pub content_lines : Content → List (List ℕ)
content_lines (did act) = act_line act ∷ []
content_lines (did_all acts) = batch_lines acts ++ map act_line acts
content_lines (closed last) = []

-- the commands of entries, in order
abbrev pub commands_of : List Entry → List (List ℕ)
commands_of [] = []
commands_of (entry ∷ entries) = content_lines entry.content ++ commands_of entries

-- lines, each with its end
abbrev pub lines_text : List (List ℕ) → List ℕ
lines_text [] = []
lines_text (line ∷ lines) = (line ++ 10 ∷ []) ++ lines_text lines

abbrev pub dump_text : List Entry → List ℕ
dump_text entries = lines_text (commands_of entries)

-- the value of a write is of bytes, as each that was read is
abbrev pub IsOfBytes : Act → Type 0
IsOfBytes (Wrote w) = IsBytes w.value
IsOfBytes act = ⊤
