-- Which keys a compaction would clear of the writes that are put back, and which of the writes shows it.
use Rattle.std.proofs.Common.{◌≡◌, ℕ, ◌+◌, ◌<◌, Bool, true, false, ◌&&◌, ◌==◌, not, List, [], ◌∷◌, Option, Some, None, ⊎_elim, length, take, get_or, refl, sym, subst, ap, ◌∙◌, arith}
use Rattle.std.specs.Prelude.{nat_le}
use Rattle.std.specs.List.{Contains, last_or}
use Rattle.std.specs.Option.{option_map_or}
use Rattle.std.proofs.lemmas.Bool.{and_parts, eq-eqb, eqb-true, false_from_ne_true, le-leb}
use Rattle.std.proofs.lemmas.List.Elements.{Contains-get_or, Contains-push_cases}
use Rattle.kv_model.specs.Acts.{Write, is_put}
use Rattle.kv_model.specs.Requests.{asked, write_for}
use Rattle.kv_model.specs.Retained.{is_cleared}
use Rattle.kv_model.specs.declared.request.Request.{Request}
use Rattle.kv_model.proofs.Members.{Contains-cases, Contains-map, Contains-none}
use Rattle.kv_store.specs.Stored.{Stored, last_at}
use Rattle.kv_journal.specs.Restored.{HasPutBack, those_of}
use Rattle.kv_journal.specs.inside.Contents.{writes_told}
use Rattle.kv_journal.specs.inside.Reachable.{RiseWithin}
use Rattle.kv_journal.proofs.Arriving.{told_more}
use Rattle.kv_journal.proofs.OfOneKey.{cleared_by, last_is}
use Rattle.kv_journal.proofs.RisingWrites.{rise_members}

-- ---- the last write of a key

-- where revisions rise, one revision is that of one write
pub rise_same : (low last : ℕ) (ws : List Write) (x y : Write) → RiseWithin low last ws → Contains ws x → Contains ws y → x.revision ≡ y.revision → x ≡ y
rise_same low last [] x y h m n e = absurd (Contains-none x m)
rise_same low last (w ∷ ws) x y h m n e =
    ⊎_elim
    (λ (f : w ≡ x).
    ⊎_elim
    (λ (g : w ≡ y). sym f ∙ g)
    (λ k. absurd (omega (arith, ap (λ (v : Write). v.revision) f, (rise_members w.revision last ws y h.1 k).0, e)))
    (Contains-cases w ws y n))
    (λ j.
    ⊎_elim
    (λ (g : w ≡ y). absurd (omega (arith, ap (λ (v : Write). v.revision) g, (rise_members w.revision last ws x h.1 j).0, e)))
    (λ k. rise_same w.revision last ws x y h.1 j k e)
    (Contains-cases w ws y n))
    (Contains-cases w ws x m)

-- ---- what a look at each write shows

-- whether this write is the last one of its key in the version, a marker at or below the floor
abbrev pub is_last_marker : ℕ → Stored → Write → Bool
is_last_marker floor version w = not (is_put w.op) && nat_le w.revision floor && option_map_or (λ v. v.revision == w.revision) (last_at w.key version) false

-- none of these is
abbrev pub NoneClears : ℕ → Stored → List Write → Type 0
NoneClears floor version ws = (w : Write) → Contains ws w → is_last_marker floor version w ≡ false

pub none_yet : (floor : ℕ) (version : Stored) → NoneClears floor version []
none_yet floor version w m = absurd (Contains-none w m)

-- nor is one more
pub one_spared : (floor : ℕ) (version : Stored) (told : List (ℕ × Request)) (i : ℕ) (t : ℕ × Request) → i < length told → t ≡ get_or told i t → NoneClears floor version (writes_told (take i told))
    → is_last_marker floor version (write_for (asked t.1) t.0) ≡ false → NoneClears floor version (writes_told (take (i + 1) told))
one_spared floor version told i t l is so one w m =
    let ws = writes_told (take i told) in
    let v = write_for (asked t.1) t.0 in
    ⊎_elim
    (so w)
    (λ (e : v ≡ w). ap (is_last_marker floor version) (sym e) ∙ one)
    (Contains-push_cases ws v w (subst (λ (us : List Write). Contains us w) (told_more told i t l is) m))

-- where no write is, no key is cleared
pub all_spared : (floor : ℕ) (ws : List Write) (version : Stored) → HasPutBack ws version → NoneClears floor version ws → (key : List ℕ) → is_cleared floor (those_of key ws) ≡ false
all_spared floor ws version put none key = false_from_ne_true (is_cleared floor (those_of key ws)) clears
  where
    clears : is_cleared floor (those_of key ws) ≡ true → ⊥
    clears t =
        let by = cleared_by floor (those_of key ws) t in
        let m = by.0 in
        let is = last_is key ws m by.1 in
        let last : last_at m.key version ≡ Some m = put.last_of m.key ∙ ap (λ (k : List ℕ). last_or None (those_of k ws)) is.1 ∙ by.1 in
        let shown : is_last_marker floor version m ≡ true =
        ap (λ (b : Bool). not b && nat_le m.revision floor && option_map_or (λ v. v.revision == m.revision) (last_at m.key version) false) by.2
        ∙ ap (λ (b : Bool). b && option_map_or (λ v. v.revision == m.revision) (last_at m.key version) false) (le-leb m.revision floor by.3)
        ∙ ap (λ (o : Option Write). option_map_or (λ v. v.revision == m.revision) o false) last
        ∙ eq-eqb m.revision m.revision refl in
        let wrong : true ≡ false = sym shown ∙ none m is.0 in
        absurd cc

-- where a write is, its key is cleared
pub one_clears : (floor last : ℕ) (ws : List Write) (version : Stored) (w : Write) → HasPutBack ws version → RiseWithin 0 last ws → Contains ws w → is_last_marker floor version w ≡ true → is_cleared floor (those_of w.key ws) ≡ true
one_clears floor last ws version w put rise m t =
    let parts = and_parts (not (is_put w.op) && nat_le w.revision floor) (option_map_or (λ v. v.revision == w.revision) (last_at w.key version) false) t in
    by (last_or None (those_of w.key ws)) refl parts.0 (ap (λ (o : Option Write). option_map_or (λ v. v.revision == w.revision) o false) (sym (put.last_of w.key)) ∙ parts.1)
  where
    by : (o : Option Write) → last_or None (those_of w.key ws) ≡ o → (not (is_put w.op) && nat_le w.revision floor) ≡ true → option_map_or (λ v. v.revision == w.revision) o false ≡ true → is_cleared floor (those_of w.key ws) ≡ true
    by None e marker k = absurd cc
    by (Some v) e marker k =
        let same : v ≡ w = rise_same 0 last ws v w rise (last_is w.key ws v e).0 m (eqb-true v.revision w.revision k) in
        ap (λ (o : Option Write). option_map_or (λ u. not (is_put u.op) && nat_le u.revision floor) o false) (e ∙ ap Some same) ∙ marker

-- so not all keys are spared
pub not_spared : (floor last : ℕ) (told : List (ℕ × Request)) (version : Stored) (i : ℕ) (t : ℕ × Request) → HasPutBack (writes_told told) version → RiseWithin 0 last (writes_told told) → i < length told → t ≡ get_or told i t
    → is_last_marker floor version (write_for (asked t.1) t.0) ≡ true → ((key : List ℕ) → is_cleared floor (those_of key (writes_told told)) ≡ false) → false ≡ true
not_spared floor last told version i t put rise l is clears spared =
    let w = write_for (asked t.1) t.0 in
    let among : Contains told t = subst (Contains told) (sym is) (Contains-get_or told i t l) in
    let m : Contains (writes_told told) w = Contains-map (λ (u : ℕ × Request). write_for (asked u.1) u.0) told t among in
    sym (spared w.key) ∙ one_clears floor last (writes_told told) version w put rise m clears
