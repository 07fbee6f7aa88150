-- What a version's parts store.
use Rattle.std.specs.Prelude.{ℕ, List, map}
use Rattle.kv_model.specs.Acts.{Write}
use Rattle.kv_store.specs.Stored.{KeyHistory, Stored}
use Rattle.kv_store.specs.declared.version.Inner.{Inner}

-- the revisions in the entries of the key trie
abbrev pub kept_entries : List (List ℕ × KeyHistory) → List (List ℕ × List ℕ)
kept_entries entries = map (λ e. (e.0, e.1.revisions)) entries

-- the last writes in the entries of the key trie
abbrev pub last_entries : List (List ℕ × KeyHistory) → List (List ℕ × Write)
last_entries entries = map (λ e. (e.0, e.1.last)) entries

abbrev pub stored_of : Inner → Stored
stored_of v = record {
  config = record {
    bucket = v.name.bytes;
    history = v.history;
    value_limit = v.value_limit;
    write_limit = v.write_limit;
    revision_limit = v.revision_limit;
  };
  by_key = kept_entries v.by_key;
  last_by_key = last_entries v.by_key;
  by_revision = v.by_revision;
  last = v.last;
  values = v.values;
  floor = v.floor;
  sealed = v.sealed;
}
