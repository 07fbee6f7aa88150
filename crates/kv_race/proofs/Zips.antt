-- Two lists side by side.
use Rattle.std.proofs.Common.{◌≡◌, ℕ, suc, ◌+◌, ◌<◌, ◌≤◌, List, [], ◌∷◌, ◌++◌, All, length, map, take, drop, length-drop, get_or, add-one, refl, sym, ap, subst, ◌∙◌, arith}
use Rattle.std.specs.List.{AllZip}
use Rattle.std.specs.PromisedHandle.{KeepsEach}
use Rattle.std.proofs.Math.Seq.{drop-cons}
use Rattle.std.proofs.lemmas.List.{take_more}
use Rattle.std.proofs.lemmas.List.Elements.{All-head, All-tail, All-cons}
use Rattle.std.specs.declared.thread.PromisedHandle.{PromisedHandle}
use Rattle.std.specs.declared.thread.Promise as Promise

pub zip_trans : {X Y Z : Type 0} (R : X → Y → Type 0) (S : Y → Z → Type 0) (T : X → Z → Type 0) → ((x : X) (y : Y) (z : Z) → R x y → S y z → T x z)
    → (xs : List X) (ys : List Y) (zs : List Z) → AllZip R xs ys → AllZip S ys zs → AllZip T xs zs
zip_trans R S T f [] [] [] h k = tt
zip_trans R S T f [] [] (z ∷ zs) h k = absurd k
zip_trans R S T f [] (y ∷ ys) zs h k = absurd h
zip_trans R S T f (x ∷ xs) [] zs h k = absurd h
zip_trans R S T f (x ∷ xs) (y ∷ ys) [] h k = absurd k
zip_trans R S T f (x ∷ xs) (y ∷ ys) (z ∷ zs) h k = (f x y z h.0 k.0, zip_trans R S T f xs ys zs h.1 k.1)

-- what fits at what belongs to the second of each pair fits at this, where that is this
pub zip_same : {X Y A : Type 0} (R : X → Y → A → Type 0) (at : Y → A) (a : A) (xs : List X) (ys : List Y) → AllZip (λ x y. R x y (at y)) xs ys → All (λ b. b ≡ a) (map at ys) → AllZip (λ x y. R x y a) xs ys
zip_same R at a [] [] h same = tt
zip_same R at a [] (y ∷ ys) h same = absurd h
zip_same R at a (x ∷ xs) [] h same = absurd h
zip_same R at a (x ∷ xs) (y ∷ ys) h same =
    (subst (λ (b : _). R x y b) (All-head (λ b. b ≡ a) (at y) (map at ys) same) h.0, zip_same R at a xs ys h.1 (All-tail (λ b. b ≡ a) (at y) (map at ys) same))

-- what follows of the second of each pair holds of all of these
pub zip_each : {X Y : Type 0} (R : X → Y → Type 0) (P : Y → Type 0) → ((x : X) (y : Y) → R x y → P y) → (xs : List X) (ys : List Y) → AllZip R xs ys → All P ys
zip_each R P f [] [] h = λ k d l. absurd (omega (arith, l))
zip_each R P f [] (y ∷ ys) h = absurd h
zip_each R P f (x ∷ xs) [] h = absurd h
zip_each R P f (x ∷ xs) (y ∷ ys) h = All-cons P y ys (f x y h.0) (zip_each R P f xs ys h.1)

-- what fits the images fits, and the other way round
pub zip_map_left : {X Y Z : Type 0} (R : Y → Z → Type 0) (f : X → Y) (xs : List X) (zs : List Z) → AllZip (λ x z. R (f x) z) xs zs → AllZip R (map f xs) zs
zip_map_left R f [] [] h = tt
zip_map_left R f [] (z ∷ zs) h = absurd h
zip_map_left R f (x ∷ xs) [] h = absurd h
zip_map_left R f (x ∷ xs) (z ∷ zs) h = (h.0, zip_map_left R f xs zs h.1)

pub zip_map_right : {X Y Z : Type 0} (R : X → Z → Type 0) (f : Y → Z) (xs : List X) (ys : List Y) → AllZip (λ x y. R x (f y)) xs ys → AllZip R xs (map f ys)
zip_map_right R f [] [] h = tt
zip_map_right R f [] (y ∷ ys) h = absurd h
zip_map_right R f (x ∷ xs) [] h = absurd h
zip_map_right R f (x ∷ xs) (y ∷ ys) h = (h.0, zip_map_right R f xs ys h.1)

pub zip_unmap_right : {X Y Z : Type 0} (R : X → Z → Type 0) (f : Y → Z) (xs : List X) (ys : List Y) → AllZip R xs (map f ys) → AllZip (λ x y. R x (f y)) xs ys
zip_unmap_right R f [] [] h = tt
zip_unmap_right R f [] (y ∷ ys) h = absurd h
zip_unmap_right R f (x ∷ xs) [] h = absurd h
zip_unmap_right R f (x ∷ xs) (y ∷ ys) h = (h.0, zip_unmap_right R f xs ys h.1)

zip_push : {X Y : Type 0} (R : X → Y → Type 0) (xs : List X) (ys : List Y) (x : X) (y : Y) → AllZip R xs ys → R x y → AllZip R (xs ++ x ∷ []) (ys ++ y ∷ [])
zip_push R [] [] x y h r = (r, tt)
zip_push R [] (z ∷ ys) x y h r = absurd h
zip_push R (z ∷ xs) [] x y h r = absurd h
zip_push R (z ∷ xs) (w ∷ ys) x y h r = (h.0, zip_push R xs ys x y h.1 r)

-- one more of both
pub zip_more : {X Y : Type 0} (R : X → Y → Type 0) (xs : List X) (ys : List Y) (n : ℕ) (d : X) (y : Y) → n < length xs → AllZip R (take n xs) ys → R (get_or xs n d) y → AllZip R (take (n + 1) xs) (ys ++ y ∷ [])
zip_more R xs ys n d y l h r = subst (λ (zs : List _). AllZip R zs (ys ++ y ∷ [])) (sym (take_more xs n d l)) (zip_push R (take n xs) ys (get_or xs n d) y h r)

-- what is next of the rest of a list stands at that place
pub next_of_rest : {X : Type 0} (xs : List X) (n : ℕ) (x : X) (rest : List X) → drop n xs ≡ x ∷ rest → (n < length xs) × ((x ≡ get_or xs n x) × (rest ≡ drop (n + 1) xs))
next_of_rest xs n x rest e =
    let l : n < length xs = omega (arith, length-drop n xs, ap length e) in
    let f : x ∷ rest ≡ get_or xs n x ∷ drop (n + 1) xs = sym e ∙ rw (add-one n) (drop-cons xs n x l) in
    (l, (cc, cc))

-- one more of both, where the first list is gone through to its end
pub zip_step : {X Y : Type 0} (R : X → Y → Type 0) (xs : List X) (ys later : List Y) (n m : ℕ) (x : X) (rest : List X) (y : Y) → drop n xs ≡ x ∷ rest → m ≡ n + 1 → later ≡ ys ++ y ∷ []
    → AllZip R (take n xs) ys → R x y → AllZip R (take m xs) later × (rest ≡ drop m xs)
zip_step R xs ys later n m x rest y e k grown h r =
    let next = next_of_rest xs n x rest e in
    rw (k, grown) (zip_more R xs ys n x y next.0 h (subst (λ (z : _). R z y) next.1.0 r), next.1.1)

-- what joined threads gave keeps their promises
module _ {T P : Type 0} (g : Promise.Ghosts P T) where
  pub zip_keeps : (hs : List (PromisedHandle T P)) (rs : List T) → length rs ≡ length hs → KeepsEach g (length hs) hs rs → AllZip (λ h r. g.kept_by h.promise r) hs rs
  zip_keeps [] [] e keeps = tt
  zip_keeps [] (r ∷ rs) e keeps = absurd (omega arith)
  zip_keeps (h ∷ hs) [] e keeps = absurd (omega arith)
  zip_keeps (h ∷ hs) (r ∷ rs) e keeps =
      let first = (keeps 0 r (omega arith)).1 in (
        subst (λ (k : PromisedHandle T P). g.kept_by k.promise r) first.handle_is first.kept,
        zip_keeps hs rs (omega arith) (λ i d l.
            let later = keeps (suc i) d (omega arith) in (refl, record { handle = later.1.handle; handle_is = later.1.handle_is; kept = later.1.kept })),
      )

-- what is promised by each thread of a list, in terms of what it was started on
kept_on : {T P X : Type 0} (g : Promise.Ghosts P T) (on : P → X) (R : X → T → Type 0) → ((p : P) (r : T) → g.kept_by p r → R (on p) r)
    → (hs : List (PromisedHandle T P)) (rs : List T) → AllZip (λ h r. g.kept_by h.promise r) hs rs → AllZip R (map (λ h. on h.promise) hs) rs
kept_on g on R fits [] [] h = tt
kept_on g on R fits [] (r ∷ rs) h = absurd h
kept_on g on R fits (x ∷ hs) [] h = absurd h
kept_on g on R fits (x ∷ hs) (r ∷ rs) h = (fits x.promise r h.0, kept_on g on R fits hs rs h.1)

pub zip_kept : {T P X : Type 0} (g : Promise.Ghosts P T) (on : P → X) (R : X → T → Type 0) (xs : List X) (hs : List (PromisedHandle T P)) (rs : List T) (n : ℕ)
    → map (λ h. on h.promise) hs ≡ xs → length rs ≡ length hs → length hs ≤ n → KeepsEach g n hs rs → ((p : P) (r : T) → g.kept_by p r → R (on p) r) → AllZip R xs rs
zip_kept g on R xs hs rs n started len enough keeps fits =
    let each : KeepsEach g (length hs) hs rs = λ i d l. keeps i d (omega (arith, l, enough)) in
    subst (λ (ys : List _). AllZip R ys rs) started (kept_on g on R fits hs rs (zip_keeps g hs rs len each))
