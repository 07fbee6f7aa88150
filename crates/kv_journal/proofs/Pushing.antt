-- The frames of stored writes, one behind the other.
use Rattle.std.proofs.Common.{◌≡◌, ℕ, ◌+◌, ◌<◌, Bool, List, [], ◌∷◌, ◌++◌, length, map, take, get_or, sym, ap, ◌∙◌, subst, append_assoc, append-nil, length-append}
use Rattle.std.specs.Prelude.{Result, Ok, Err, OnOk}
use Rattle.std.proofs.lemmas.List.{map-append, take_more}
use Rattle.kv_frames.specs.Frames.{ArePayloads, IsPayload, frame, frames, offset_after}
use Rattle.kv_frames.proofs.Reading.{frames-append, offset_is}
use Rattle.kv_model.specs.Acts.{Act, Write, writes_of, floor_of}
use Rattle.kv_model.specs.Compaction.{stored_writes}
use Rattle.kv_model.specs.Retained.{retained}
use Rattle.kv_store.specs.Standing.{StandsFor}
use Rattle.kv_store.specs.Stored.{Stored}
use Rattle.kv_journal.specs.Checkpoints.{checkpoint_of, checkpoint_payloads, numbers_record, settled_payload, stored_payload}

-- ---- frames

payloads_append : (ps qs : List (List ℕ)) → ArePayloads ps → ArePayloads qs → ArePayloads (ps ++ qs)
payloads_append [] qs h k = k
payloads_append (p ∷ ps) qs h k = (h.0, payloads_append ps qs h.1 k)

-- frames behind frames
pub more_frames : (seed : ℕ) (old mid new : List ℕ) (ps qs : List (List ℕ)) → mid ≡ old ++ frames seed (length old) ps → new ≡ mid ++ frames seed (length mid) qs → new ≡ old ++ frames seed (length old) (ps ++ qs)
more_frames seed old mid new ps qs one two =
    let first = frames seed (length old) ps in
    let there : length mid ≡ offset_after (length old) ps = ap length one ∙ length-append old first ∙ sym (offset_is seed (length old) ps) in
    two ∙ ap (λ (n : ℕ). mid ++ frames seed n qs) there ∙ ap (λ (xs : List ℕ). xs ++ frames seed (offset_after (length old) ps) qs) one
    ∙ append_assoc old first (frames seed (offset_after (length old) ps) qs) ∙ ap (λ (xs : List ℕ). old ++ xs) (sym (frames-append seed (length old) ps qs))

-- that of one payload
pub one_frame : {E : Type 0} (r : Result (Unit {0}) E) (seed : ℕ) (old new payload wanted : List ℕ) (at : ℕ) → payload ≡ wanted → at ≡ length old
    → OnOk r (new ≡ old ++ frame seed at payload) → OnOk r (new ≡ old ++ frames seed (length old) (wanted ∷ []))
one_frame (Ok done) seed old new payload wanted at is here on =
    on ∙ ap (λ (n : ℕ). old ++ frame seed n payload) here ∙ ap (λ (p : List ℕ). old ++ frame seed (length old) p) is
    ∙ ap (λ (xs : List ℕ). old ++ xs) (sym (append-nil (frame seed (length old) wanted)))
one_frame (Err error) seed old new payload wanted at is here on = tt

-- those of these writes
pub record ArePushed (seed : ℕ) (old : List ℕ) (ws : List Write) (new : List ℕ) : Type 0 where
  pub items : new ≡ old ++ frames seed (length old) (map stored_payload ws)
  pub payloads : ArePayloads (map stored_payload ws)

pub none_pushed : (seed : ℕ) (old : List ℕ) → ArePushed seed old [] old
none_pushed seed old = record { items = sym (append-nil old); payloads = tt }

pub one_pushed : (seed : ℕ) (old : List ℕ) (ws : List Write) (w : Write) (mid new : List ℕ) → ArePushed seed old ws mid
    → new ≡ mid ++ frames seed (length mid) (stored_payload w ∷ []) → IsPayload (stored_payload w) → ArePushed seed old (ws ++ w ∷ []) new
one_pushed seed old ws w mid new are is payload =
    let all : map stored_payload ws ++ stored_payload w ∷ [] ≡ map stored_payload (ws ++ w ∷ []) = sym (map-append stored_payload ws (w ∷ [])) in
    record {
      items = more_frames seed old mid new (map stored_payload ws) (stored_payload w ∷ []) are.items is ∙ ap (λ (ps : List (List ℕ)). old ++ frames seed (length old) ps) all;
      payloads = subst ArePayloads all (payloads_append (map stored_payload ws) (stored_payload w ∷ []) are.payloads (payload, tt));
    }

-- one more of a list
pub next_pushed : {X : Type 0} (read : X → Write) (seed : ℕ) (old mid new : List ℕ) (xs : List X) (i : ℕ) (x : X) → i < length xs → x ≡ get_or xs i x → ArePushed seed old (map read (take i xs)) mid
    → new ≡ mid ++ frames seed (length mid) (stored_payload (read x) ∷ []) → IsPayload (stored_payload (read x)) → ArePushed seed old (map read (take (i + 1) xs)) new
next_pushed read seed old mid new xs i x l is are on payload =
    let one : map read (take (i + 1) xs) ≡ map read (take i xs) ++ read x ∷ [] =
    ap (map read) (take_more xs i x l) ∙ map-append read (take i xs) (get_or xs i x ∷ []) ∙ ap (λ y. map read (take i xs) ++ read y ∷ []) (sym is) in
    subst (λ ws. ArePushed seed old ws new) (sym one) (one_pushed seed old (map read (take i xs)) (read x) mid new are on payload)

-- ---- a checkpoint

pub checkpoint_is : (acts : List Act) (version : Stored) → StandsFor acts version
    → map stored_payload (stored_writes version.config.history acts) ++ settled_payload (numbers_record version.last version.values version.floor version.sealed) ∷ [] ≡ checkpoint_payloads (checkpoint_of version.config acts)
checkpoint_is acts version s =
    ap (λ (p : List ℕ). map stored_payload (stored_writes version.config.history acts) ++ p ∷ [])
    (ap (λ (n : ℕ). settled_payload (numbers_record n version.values version.floor version.sealed)) s.last
    ∙ ap (λ (n : ℕ). settled_payload (numbers_record (length (writes_of acts)) n version.floor version.sealed)) s.values
    ∙ ap (λ (n : ℕ). settled_payload (numbers_record (length (writes_of acts)) (length (retained version.config.history acts)) n version.sealed)) s.floor
    ∙ ap (λ (b : Bool). settled_payload (numbers_record (length (writes_of acts)) (length (retained version.config.history acts)) (floor_of acts) b)) s.sealed)

module _ {E : Type 0} (seed : ℕ) (old mid new : List ℕ) (version : Stored) (ws : List Write) (stored : (acts : List Act) → StandsFor acts version → ws ≡ stored_writes version.config.history acts) (payload : List ℕ) (at : ℕ) (are : ArePushed seed old ws mid) (is : payload ≡ settled_payload (numbers_record version.last version.values version.floor version.sealed)) where
  pub frames_pushed : (r : Result (Unit {0}) E) → at ≡ length mid → OnOk r (new ≡ mid ++ frame seed at payload)
      → OnOk r ((acts : List Act) → StandsFor acts version → new ≡ old ++ frames seed (length old) (checkpoint_payloads (checkpoint_of version.config acts)))
  frames_pushed (Ok done) here on = λ acts s.
      let ps = map stored_payload ws in
      let numbers = settled_payload (numbers_record version.last version.values version.floor version.sealed) in
      let one : new ≡ mid ++ frames seed (length mid) (numbers ∷ []) =
      on ∙ ap (λ (n : ℕ). mid ++ frame seed n payload) here ∙ ap (λ (p : List ℕ). mid ++ frame seed (length mid) p) is
      ∙ ap (λ (xs : List ℕ). mid ++ xs) (sym (append-nil (frame seed (length mid) numbers))) in
      more_frames seed old mid new ps (numbers ∷ []) are.items one ∙ ap (λ (qs : List (List ℕ)). old ++ frames seed (length old) qs) (ap (λ (vs : List Write). map stored_payload vs ++ numbers ∷ []) (stored acts s) ∙ checkpoint_is acts version s)
  frames_pushed (Err error) here on = tt

  pub payloads_pushed : (r : Result (Unit {0}) E) → IsPayload payload → OnOk r ((acts : List Act) → StandsFor acts version → ArePayloads (checkpoint_payloads (checkpoint_of version.config acts)))
  payloads_pushed (Ok done) one = λ acts s.
      let ps = map stored_payload ws in
      subst ArePayloads (ap (λ (p : List ℕ). ps ++ p ∷ []) is ∙ ap (λ (vs : List Write). map stored_payload vs ++ settled_payload (numbers_record version.last version.values version.floor version.sealed) ∷ []) (stored acts s) ∙ checkpoint_is acts version s) (payloads_append ps (payload ∷ []) are.payloads (one, tt))
  payloads_pushed (Err error) one = tt
