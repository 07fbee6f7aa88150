-- What the bytes of a record say.
use Rattle.std.specs.Prelude.{◌≡◌, ℕ, true, List, [], ◌∷◌, None, ⊤}
use Rattle.std.specs.Int.{w64, to_be_bytes}
use Rattle.kv_keys.specs.Grammar.{is_key}
use Rattle.kv_model.specs.Requests.{Asked, put, create, update, delete, purge, asked, key_of, op_of, value_of}
use Rattle.kv_journal.specs.Records.{write_record}
use Rattle.kv_journal.specs.declared.decode.Record.{Record}
use Rattle.kv_journal.specs.declared.decode.Record.TheVariants as records

-- a request that asks nothing of what was written before
abbrev pub IsPlain : Asked → Type 0
IsPlain (put key value) = ⊤
IsPlain (create key value) = ⊥
IsPlain (update key value last) = ⊥
IsPlain (delete key last) = last ≡ None
IsPlain (purge key last) = last ≡ None

-- a plain request for a key, whose write has this record
pub record SaysWrite (request : Asked) (bytes : List ℕ) : Type 0 where
  pub plain : IsPlain request
  pub key : is_key (key_of request) ≡ true
  pub says : bytes ≡ write_record (op_of request) (key_of request) (value_of request)

-- the record is what these bytes say
abbrev pub Says : Record → List ℕ → Type 0
Says (records.Write request) bytes = SaysWrite (asked request) bytes
Says records.Seal bytes = bytes ≡ 4 ∷ []
Says (records.Compact floor) bytes = bytes ≡ 5 ∷ to_be_bytes w64 floor
Says (records.Closed last) bytes = bytes ≡ 9 ∷ to_be_bytes w64 last
