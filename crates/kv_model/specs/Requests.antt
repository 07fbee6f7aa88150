-- What a request asks for.
use Rattle.std.specs.Prelude.{ℕ, List, [], Option}
use Rattle.kv_model.specs.Acts.{Write}
use Rattle.kv_model.specs.declared.write.Op.{Op}
use Rattle.kv_model.specs.declared.write.Op.TheVariants as ops
use Rattle.kv_model.specs.declared.request.Request.{Request}
use Rattle.kv_model.specs.declared.request.Request.TheVariants as requests

-- a request without where its parts lie in memory
pub data Asked : Type 0 where
  put : (key value : List ℕ) → Asked
  create : (key value : List ℕ) → Asked
  update : (key value : List ℕ) → (last : ℕ) → Asked
  delete : (key : List ℕ) → (last : Option ℕ) → Asked
  purge : (key : List ℕ) → (last : Option ℕ) → Asked

abbrev pub asked : Request → Asked
asked (requests.Put key value) = put key value.items
asked (requests.Create key value) = create key value.items
asked (requests.Update key value last) = update key value.items last
asked (requests.Delete key last) = delete key last
asked (requests.Purge key last) = purge key last

-- the key that is to be written
abbrev pub key_of : Asked → List ℕ
key_of (put key value) = key
key_of (create key value) = key
key_of (update key value last) = key
key_of (delete key last) = key
key_of (purge key last) = key

-- the value that the key is to have; a marker's is empty
abbrev pub value_of : Asked → List ℕ
value_of (put key value) = value
value_of (create key value) = value
value_of (update key value last) = value
value_of (delete key last) = []
value_of (purge key last) = []

-- a put, a create and an update write a put, a delete and a purge their markers
abbrev pub op_of : Asked → Op
op_of (put key value) = ops.Put
op_of (create key value) = ops.Put
op_of (update key value last) = ops.Put
op_of (delete key last) = ops.Delete
op_of (purge key last) = ops.Purge

-- the write for a request, at a revision
abbrev pub write_for : Asked → ℕ → Write
write_for asked revision = record { key = key_of asked; op = op_of asked; value = value_of asked; revision = revision }
