-- Writes that are told one after the other: one more of them, how many of the first ones pass a test, and which are kept.
use Rattle.std.proofs.Common.{◌≡◌, ℕ, ◌+◌, ◌<◌, Bool, true, false, cond, List, [], ◌∷◌, ◌++◌, length, filter, take, get_or, drop, append_assoc, unwrap_or, Option, ◌==◌, sym, ap, ◌∙◌, arith, length-append}
use Rattle.std.proofs.lemmas.List.{map-append, take-append-drop, take_more}
use Rattle.std.proofs.lemmas.List.Elements.{filter-append}
use Rattle.std.specs.List.{list_any}
use Rattle.kv_model.specs.Acts.{Write}
use Rattle.kv_model.specs.Requests.{asked, write_for}
use Rattle.kv_model.specs.declared.request.Request.{Request}
use Rattle.kv_model.specs.Retained.{revisions}
use Rattle.kv_model.proofs.Found.{or_empty}
use Rattle.kv_store.specs.Stored.{Stored, kept_at}
use Rattle.kv_journal.specs.Restored.{HasPutBack}
use Rattle.kv_journal.specs.inside.Reachable.{is_kept_among, kept_among}
use Rattle.kv_journal.specs.inside.Contents.{writes_told}

-- the write that is told of one more request comes behind the others
pub told_more : (told : List (ℕ × Request)) (i : ℕ) (t : ℕ × Request) → i < length told → t ≡ get_or told i t → writes_told (take (i + 1) told) ≡ writes_told (take i told) ++ write_for (asked t.1) t.0 ∷ []
told_more told i t l is =
    ap writes_told (take_more told i t l)
    ∙ map-append (λ (t : ℕ × Request). write_for (asked t.1) t.0) (take i told) (get_or told i t ∷ [])
    ∙ ap (λ (u : ℕ × Request). writes_told (take i told) ++ write_for (asked u.1) u.0 ∷ []) (sym is)

-- so many of the first requests' writes pass a test
abbrev pub counted : (Write → Bool) → ℕ → List (ℕ × Request) → ℕ
counted p i told = length (filter p (writes_told (take i told)))

-- with one more that passes it is one more
pub counted_passes : (p : Write → Bool) (told : List (ℕ × Request)) (i count : ℕ) (t : ℕ × Request) → i < length told → t ≡ get_or told i t → count ≡ counted p i told → p (write_for (asked t.1) t.0) ≡ true → count + 1 ≡ counted p (i + 1) told
counted_passes p told i count t l is so e =
    let ws = writes_told (take i told) in
    let w = write_for (asked t.1) t.0 in
    let one : filter p (w ∷ []) ≡ w ∷ [] = ap (λ (b : Bool). cond b (w ∷ []) []) e in
    let all : counted p (i + 1) told ≡ length (filter p ws ++ w ∷ []) = ap (λ (vs : List Write). length (filter p vs)) (told_more told i t l is) ∙ ap (λ (vs : List Write). length vs) (filter-append p ws (w ∷ [])) ∙ ap (λ (vs : List Write). length (filter p ws ++ vs)) one in
    omega (arith, all, length-append (filter p ws) (w ∷ []))

-- with one more that does not it is the same
pub counted_fails : (p : Write → Bool) (told : List (ℕ × Request)) (i count : ℕ) (t : ℕ × Request) → i < length told → t ≡ get_or told i t → count ≡ counted p i told → p (write_for (asked t.1) t.0) ≡ false → count ≡ counted p (i + 1) told
counted_fails p told i count t l is so e =
    let ws = writes_told (take i told) in
    let w = write_for (asked t.1) t.0 in
    let none : filter p (w ∷ []) ≡ [] = ap (λ (b : Bool). cond b (w ∷ []) []) e in
    let all : counted p (i + 1) told ≡ length (filter p ws ++ []) = ap (λ (vs : List Write). length (filter p vs)) (told_more told i t l is) ∙ ap (λ (vs : List Write). length vs) (filter-append p ws (w ∷ [])) ∙ ap (λ (vs : List Write). length (filter p ws ++ vs)) none in
    omega (arith, all, length-append (filter p ws) [])

-- what is found of a key in a version tells whether a write of it is kept among those that are put back
pub kept_is : (ws : List Write) (version : Stored) (key : List ℕ) (w : Write) → HasPutBack ws version → key ≡ w.key → list_any (λ r. r == w.revision) (unwrap_or (kept_at key version) []) ≡ is_kept_among version.config.history ws w
kept_is ws version key w put same =
    let h = version.config.history in
    let found : unwrap_or (kept_at key version) [] ≡ revisions (kept_among h w.key ws) =
    ap (λ (k : List ℕ). unwrap_or (kept_at k version) []) same ∙ ap (λ (o : Option (List ℕ)). unwrap_or o []) (put.kept w.key) ∙ or_empty (revisions (kept_among h w.key ws)) in
    ap (list_any (λ r. r == w.revision)) found

-- all writes that are told are those of the first requests, that of the next one, and the rest
pub told_split : (told : List (ℕ × Request)) (i : ℕ) (t : ℕ × Request) → i < length told → t ≡ get_or told i t → writes_told told ≡ writes_told (take i told) ++ write_for (asked t.1) t.0 ∷ writes_told (drop (i + 1) told)
told_split told i t l is =
    let w = write_for (asked t.1) t.0 in
    let rest = writes_told (drop (i + 1) told) in
    ap writes_told (sym (take-append-drop (i + 1) told))
    ∙ map-append (λ (u : ℕ × Request). write_for (asked u.1) u.0) (take (i + 1) told) (drop (i + 1) told)
    ∙ ap (λ (ws : List Write). ws ++ rest) (told_more told i t l is)
    ∙ append_assoc (writes_told (take i told)) (w ∷ []) rest
