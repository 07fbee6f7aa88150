-- What a version that stands for acts has to be read from.
use Rattle.std.proofs.Common.{◌≡◌, ℕ, ◌+◌, ◌<◌, ◌&&◌, List, [], ◌∷◌, ◌++◌, Option, Some, None, length, get_or, take, map, refl, sym, ap, ◌∙◌}
use Rattle.std.specs.Prelude.{nat_le}
use Rattle.std.specs.List.{Contains, filter_map, cons_option}
use Rattle.std.specs.Option.{option_map, option_to_list}
use Rattle.std.proofs.lemmas.Bool.{and_parts, leb-true}
use Rattle.std.proofs.lemmas.List.{take_more, map-append}
use Rattle.std.proofs.lemmas.List.Elements.{filter_map-append}
use Rattle.kv_model.specs.Acts.{Act, Write}
use Rattle.kv_model.specs.declared.options.Start.{Start}
use Rattle.kv_model.specs.Configuration.{Configuration, IsLegal}
use Rattle.kv_model.specs.Given.{initial}
use Rattle.kv_model.specs.Reads.{unless_empty, history_of}
use Rattle.kv_model.specs.Retained.{kept, revisions}
use Rattle.kv_store.specs.Standing.{StandsFor}
use Rattle.kv_store.specs.Stored.{Stored, kept_at, write_at}
use Rattle.kv_model.proofs.Found.{write_at_kept}
use Rattle.kv_model.proofs.Members.{Contains-here, Contains-there}
use Rattle.kv_model.proofs.Numbered.{counts_from_lawful}
use Rattle.kv_store.proofs.Selecting.{initial_is_kept}

-- some entry of each key is kept
pub history_some : (config : Configuration) → IsLegal config → 0 < config.history
history_some config l =
    let history = nat_le 1 config.history && nat_le config.history 64 in
    let value = nat_le config.value_limit 1048576 in
    let writes = nat_le 1 config.write_limit && nat_le config.write_limit 1000000 in
    let revision = nat_le 1 config.revision_limit && nat_le config.revision_limit 4294967295 in
    let three = (and_parts (history && value && writes) revision l.1).0 in
    let two = (and_parts (history && value) writes three).0 in
    let both = (and_parts history value two).0 in
    leb-true 1 config.history (and_parts (nat_le 1 config.history) (nat_le config.history 64) both).0

filter_map_more : {X Y : Type 0} (f : X → Option Y) (xs : List X) (i : ℕ) (d : X) → i < length xs → filter_map f (take (i + 1) xs) ≡ filter_map f (take i xs) ++ option_to_list (f (get_or xs i d))
filter_map_more {X} {Y} f xs i d l =
    ap (filter_map f) (take_more xs i d l) ∙ filter_map-append f (take i xs) (get_or xs i d ∷ []) ∙ ap (λ ys. filter_map f (take i xs) ++ ys) (one (f (get_or xs i d)))
  where
    one : (o : Option Y) → cons_option o [] ≡ option_to_list o
    one None = refl
    one (Some y) = refl

-- one more is read
pub read_more : {T Y : Type 0} (read : T → Y) (f : ℕ → Option Y) (rs : List ℕ) (i : ℕ) (o : Option T) (before after : List T) → i < length rs → option_map read o ≡ f (get_or rs i 0) → map read before ≡ filter_map f (take i rs) → after ≡ before ++ option_to_list o → map read after ≡ filter_map f (take (i + 1) rs)
read_more {T} {Y} read f rs i o before after l one all is =
    ap (map read) is ∙ map-append read before (option_to_list o) ∙ ap (λ ys. ys ++ map read (option_to_list o)) all ∙ ap (λ ys. filter_map f (take i rs) ++ ys) (listed o ∙ ap option_to_list one) ∙ sym (filter_map_more f rs i 0 l)
  where
    listed : (p : Option T) → map read (option_to_list p) ≡ option_to_list (option_map read p)
    listed None = refl
    listed (Some t) = refl

-- each kept write is stored of its revision
pub kept_stored : (acts : List Act) (version : Stored) (key : List ℕ) (w : Write) → StandsFor acts version → Contains (kept version.config.history key acts) w → write_at w.revision version ≡ Some w
kept_stored acts version key w s m = s.written w.revision ∙ write_at_kept version.config version.config.history key acts w s.lawful m

-- and so is each initial write
pub initial_stored : (acts : List Act) (version : Stored) (start : Start) (w : Write) → StandsFor acts version → Contains (initial version.config.history start acts) w → write_at w.revision version ≡ Some w
initial_stored acts version start w s m =
    kept_stored acts version w.key w s (initial_is_kept version.config.history acts (counts_from_lawful version.config acts s.lawful) (history_some version.config s.legal) start w m)

-- what is found of the revisions of writes
pub found_of_revisions : {Y : Type 0} (f : ℕ → Option Y) (g : Write → Option Y) (ws : List Write) → ((w : Write) → Contains ws w → f w.revision ≡ g w) → filter_map f (revisions ws) ≡ filter_map g ws
found_of_revisions f g [] h = refl
found_of_revisions f g (w ∷ ws) h = rw (h w (Contains-here w ws), found_of_revisions f g ws (λ v m. h v (Contains-there w ws v m))) refl

all_found : (ws : List Write) → filter_map Some ws ≡ ws
all_found [] = refl
all_found (w ∷ ws) = ap (λ vs. w ∷ vs) (all_found ws)

-- the writes of the kept revisions are the kept writes
pub kept_writes : (acts : List Act) (version : Stored) (key : List ℕ) → StandsFor acts version → filter_map (λ r. write_at r version) (revisions (kept version.config.history key acts)) ≡ kept version.config.history key acts
kept_writes acts version key s =
    let ws = kept version.config.history key acts in
    found_of_revisions (λ r. write_at r version) Some ws (λ w m. kept_stored acts version key w s m) ∙ all_found ws

unless_empty-revisions : (ws : List Write) (rs : List ℕ) → unless_empty (revisions ws) ≡ Some rs → (revisions ws ≡ rs) × (unless_empty ws ≡ Some ws)
unless_empty-revisions [] rs h = cc
unless_empty-revisions (w ∷ ws) rs h = (cc, refl)

-- a key's history is what is stored of its kept revisions
pub history_there : (acts : List Act) (version : Stored) (key rs : List ℕ) → StandsFor acts version → kept_at key version ≡ Some rs → history_of version.config.history key acts ≡ Some (filter_map (λ r. write_at r version) rs)
history_there acts version key rs s h =
    let both = unless_empty-revisions (kept version.config.history key acts) rs (sym (s.kept key) ∙ h) in
    both.1 ∙ ap Some (sym (kept_writes acts version key s) ∙ ap (filter_map (λ r. write_at r version)) both.0)
