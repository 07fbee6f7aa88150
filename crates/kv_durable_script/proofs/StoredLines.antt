-- The lines for what a version stores, made one write after another.
use Rattle.std.proofs.Common.{◌≡◌, ℕ, ◌+◌, ◌<◌, Bool, cond, List, [], ◌∷◌, ◌++◌, length, map, take, drop, get_or, take-append-drop, Option, codes, refl, sym, ap, ◌∙◌, subst}
use Rattle.std.specs.Io.KnownBytes.{Appends}
use Rattle.std.proofs.lemmas.List.{map-append, take_more}
use Rattle.kv_model.specs.Acts.{Act, Write}
use Rattle.kv_model.specs.Compaction.{stored_writes}
use Rattle.kv_replay.specs.inside.Written.{Pours, Puts}
use Rattle.kv_replay.proofs.LeavingBytes.{puts_gone}
use Rattle.kv_replay.proofs.Pours.{poured_all, poured_part, pours-trans, pours_none, pours_on, pours_out, puts_more, puts_waiting}
use Rattle.kv_store.specs.Standing.{StandsFor}
use Rattle.kv_store.specs.Stored.{Stored}
use Rattle.kv_durable_script.specs.Dumps.{lines_text}
use Rattle.kv_durable_script.specs.Stored.{stored_line, storing_lines}
use Rattle.kv_durable_script.specs.inside.StoredText.{IsStoredText}
use Rattle.kv_durable_script.proofs.Telling.{lines_text-append}

-- those of these writes
abbrev pub text_of : List Write → List ℕ
text_of ws = lines_text (map stored_line ws)

abbrev seal_line : Bool → List (List ℕ)
seal_line b = cond b (codes "seal" ∷ []) []

-- with the last line
abbrev pub whole_of : List Write → Bool → List ℕ
whole_of ws sealed = lines_text (storing_lines ws sealed)

text_of-append : (ws vs : List Write) → text_of (ws ++ vs) ≡ text_of ws ++ text_of vs
text_of-append ws vs = ap lines_text (map-append stored_line ws vs) ∙ lines_text-append (map stored_line ws) (map stored_line vs)

whole_is : (ws : List Write) (sealed : Bool) → whole_of ws sealed ≡ text_of ws ++ lines_text (seal_line sealed)
whole_is ws sealed = lines_text-append (map stored_line ws) (seal_line sealed)

module _ {X : Type 0} (read : X → Write) (xs : List X) (held : Option (List ℕ)) (before : List ℕ) where
  -- one more of a list
  pub next_poured : (mid holds : Option (List ℕ)) (waited out waits : List ℕ) (i : ℕ) (x : X) → i < length xs → x ≡ get_or xs i x → Pours (text_of (map read (take i xs))) held before mid waited
      → out ≡ waited ++ lines_text (stored_line (read x) ∷ []) → Pours [] mid out holds waits → Pours (text_of (map read (take (i + 1) xs))) held before holds waits
  next_poured mid holds waited out waits i x l is first appended pours =
      let done = map read (take i xs) in
      let one : map read (take (i + 1) xs) ≡ done ++ read x ∷ [] =
      ap (map read) (take_more xs i x l) ∙ map-append read (take i xs) (get_or xs i x ∷ []) ∙ ap (λ y. done ++ read y ∷ []) (sym is) in
      let line = text_of (read x ∷ []) in
      let went : Pours line mid waited holds waits = pours_on line mid mid holds waited out waits (pours_out line mid waited out appended) pours in
      subst (λ (t : List ℕ). Pours t held before holds waits) (sym (ap text_of one ∙ text_of-append done (read x ∷ [])))
      (pours-trans (text_of done) line held mid holds before waited waits first went)

  -- a beginning of some is one of all
  of_all : (holds : Option (List ℕ)) (i : ℕ) → Puts (before ++ text_of (map read (take i xs))) held holds → Puts (before ++ text_of (map read xs)) held holds
  of_all holds i puts =
      let done = map read (take i xs) in
      let more = map read (drop i xs) in
      let parts : text_of (map read xs) ≡ text_of done ++ text_of more =
      ap (λ ys. text_of (map read ys)) (sym (take-append-drop i xs)) ∙ ap text_of (map-append read (take i xs) (drop i xs)) ∙ text_of-append done more in
      subst (λ (t : List ℕ). Puts (before ++ t) held holds) (sym parts) (puts_more (text_of done) (text_of more) held holds before puts)

  -- what went so far
  pub part_poured : (holds : Option (List ℕ)) (waits : List ℕ) (i : ℕ) → Pours (text_of (map read (take i xs))) held before holds waits → Puts (before ++ text_of (map read xs)) held holds
  part_poured holds waits i first = of_all holds i (puts_gone (text_of (map read (take i xs))) held holds before waits first)

  -- the sink failed behind one more
  pub fault_poured : (mid holds : Option (List ℕ)) (waited out : List ℕ) (i : ℕ) (x : X) → i < length xs → x ≡ get_or xs i x → Pours (text_of (map read (take i xs))) held before mid waited
      → out ≡ waited ++ lines_text (stored_line (read x) ∷ []) → (n : ℕ) × Appends mid holds (take n out) → Puts (before ++ text_of (map read xs)) held holds
  fault_poured mid holds waited out i x l is first appended part =
      let made = next_poured mid mid waited out out i x l is first appended (pours_none mid out) in
      of_all holds (i + 1) (puts_waiting (text_of (map read (take (i + 1) xs))) held mid holds before out made part)

-- ---- the last line

module _ (ws : List Write) (sealed : Bool) (held mid : Option (List ℕ)) (empty : List ℕ) (none : empty ≡ []) where
  pub stopped_before : Puts (empty ++ text_of ws) held mid → Puts (whole_of ws sealed) held mid
  stopped_before puts =
      let here : Puts ([] ++ text_of ws) held mid = subst (λ (w : List ℕ). Puts (w ++ text_of ws) held mid) none puts in
      subst (λ (t : List ℕ). Puts t held mid) (sym (whole_is ws sealed)) (puts_more (text_of ws) (lines_text (seal_line sealed)) held mid [] here)

  module _ (waited : List ℕ) (poured : Pours (text_of ws) held empty mid waited) where
    pub waits_still : Puts (whole_of ws sealed) held mid
    waits_still = stopped_before (puts_gone (text_of ws) held mid empty waited poured)

    module _ (holds : Option (List ℕ)) (out shown : List ℕ) (ended : out ≡ waited ++ lines_text (seal_line sealed)) (same : shown ≡ out) where
      made : Pours (whole_of ws sealed) held [] mid out
      made =
          let here : Pours (text_of ws) held [] mid waited = subst (λ (w : List ℕ). Pours (text_of ws) held w mid waited) none poured in
          subst (λ (t : List ℕ). Pours t held [] mid out) (sym (whole_is ws sealed))
          (pours-trans (text_of ws) (lines_text (seal_line sealed)) held mid mid [] waited out here (pours_out (lines_text (seal_line sealed)) mid waited out ended))

      pub all_went : Appends mid holds shown → Appends held holds (whole_of ws sealed)
      all_went went = poured_all (whole_of ws sealed) held mid holds out shown same made went

      pub part_went : (n : ℕ) × Appends mid holds (take n shown) → Puts (whole_of ws sealed) held holds
      part_went part = poured_part (whole_of ws sealed) held mid holds out shown same made part

pub is_stored_text : (version : Stored) (ws : List Write) (sealed : Bool) → ((acts : List Act) → StandsFor acts version → ws ≡ stored_writes version.config.history acts) → sealed ≡ version.sealed → IsStoredText version (whole_of ws sealed)
is_stored_text version ws sealed stored is = record {
  writes = ws;
  sealed = sealed;
  commands = refl;
  of_acts = λ acts s. ap (λ (vs : List Write). whole_of vs sealed) (stored acts s) ∙ ap (whole_of (stored_writes version.config.history acts)) (is ∙ s.sealed);
}
