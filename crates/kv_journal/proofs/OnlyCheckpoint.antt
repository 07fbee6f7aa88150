-- Of lawful acts the bytes begin with the checkpoint that was restored, and no other one.
use Rattle.std.proofs.Common.{◌≡◌, ℕ, ◌^◌, ◌<◌, Bool, true, false, if◌then◌else◌, List, [], ◌∷◌, ◌++◌, get_or, drop, refl, sym, ap, ◌∙◌, arith}
use Rattle.std.specs.Int.{w64, to_be_bytes}
use Rattle.kv_frames.specs.Frames.{IsPayload, frame}
use Rattle.kv_frames.proofs.Fronts.{sides}
use Rattle.kv_model.specs.Acts.{Wrote, Write, floor_of}
use Rattle.kv_model.specs.Compaction.{stored_writes}
use Rattle.kv_model.specs.Configuration.{Configuration, IsLegal}
use Rattle.kv_model.proofs.Storing.{floor_within}
use Rattle.kv_journal.specs.Checkpoints.{Checkpoint, checkpoint_of, numbers_payload, numbers_record, settled_payload, stored_payload}
use Rattle.kv_journal.specs.Records.{IsRecordableAct}
use Rattle.kv_journal.specs.Restored.{IsOnly}
use Rattle.kv_journal.proofs.Saying.{same_number}
use Rattle.kv_journal.proofs.Unrefused.{AreFirst, all_recordable, begins, none_next, numbers_fit}

abbrev flag : Bool → ℕ
flag b = if b then 1 else 0

same_flag : (s t : Bool) → flag s ≡ flag t → s ≡ t
same_flag true true e = refl
same_flag true false e = absurd (omega (arith, e))
same_flag false true e = absurd (omega (arith, e))
same_flag false false e = refl

abbrev tail_of : ℕ → ℕ → Bool → List ℕ
tail_of values floor sealed = to_be_bytes w64 values ++ (to_be_bytes w64 floor ++ flag sealed ∷ [])

pub same_numbers : (a b c d e f : ℕ) (s t : Bool) → a < 2 ^ 64 → b < 2 ^ 64 → c < 2 ^ 64 → d < 2 ^ 64 → e < 2 ^ 64 → f < 2 ^ 64 → settled_payload (numbers_record a b c s) ≡ settled_payload (numbers_record d e f t)
    → (a ≡ d) × (b ≡ e) × (c ≡ f) × (s ≡ t)
same_numbers a b c d e f s t ha hb hc hd he hf is =
    let one = sides (to_be_bytes w64 a) (tail_of b c s) (to_be_bytes w64 d) (tail_of e f t) refl (ap (λ (p : List ℕ). drop 5 p) is) in
    let two = sides (to_be_bytes w64 b) (to_be_bytes w64 c ++ flag s ∷ []) (to_be_bytes w64 e) (to_be_bytes w64 f ++ flag t ∷ []) refl one.1 in
    let three = sides (to_be_bytes w64 c) (flag s ∷ []) (to_be_bytes w64 f) (flag t ∷ []) refl two.1 in
    (same_number a d ha hd one.0, same_number b e hb he two.0, same_number c f hc hf three.0, same_flag s t (ap (λ (xs : List ℕ). get_or xs 0 0) three.1))

unfoldable pub made : List Write → (last values floor : ℕ) → Bool → Checkpoint
made ws last values floor sealed = record { writes = ws; last = last; values = values; floor = floor; sealed = sealed }

pub same_parts : (c : Checkpoint) (ws : List Write) (last values floor : ℕ) (sealed : Bool) → c.writes ≡ ws → c.last ≡ last → c.values ≡ values → c.floor ≡ floor → c.sealed ≡ sealed → c ≡ made ws last values floor sealed
unfolding made
same_parts c ws last values floor sealed w l v f s =
    ap (λ (xs : List Write). made xs c.last c.values c.floor c.sealed) w
    ∙ ap (λ (n : ℕ). made ws n c.values c.floor c.sealed) l
    ∙ ap (λ (n : ℕ). made ws last n c.floor c.sealed) v
    ∙ ap (λ (n : ℕ). made ws last values n c.sealed) f
    ∙ ap (λ (b : Bool). made ws last values floor b) s

pub only_this : (config : Configuration) (seed at : ℕ) (bytes : List ℕ) (ws : List Write) (offset : ℕ) (rest : List ℕ) → AreFirst seed at bytes ws offset rest → IsLegal config
    → (p after : List ℕ) → IsPayload p → rest ≡ frame seed offset p ++ after → ((w : Write) → IsRecordableAct (Wrote w) → w.revision < 2 ^ 32 → stored_payload w ≡ p → ⊥)
    → (last values floor : ℕ) (sealed : Bool) → last < 2 ^ 64 → values < 2 ^ 64 → floor < 2 ^ 64 → p ≡ settled_payload (numbers_record last values floor sealed)
    → IsOnly config seed at bytes (record { writes = ws; last = last; values = values; floor = floor; sealed = sealed })
unfolding made
only_this config seed at bytes ws offset rest are legal p after fits found none last values floor sealed hl hv hf is = λ acts left lawful each whole.
    let c = checkpoint_of config acts in
    let next = none_next seed at bytes ws offset rest p after are fits found none (stored_writes config.history acts) (numbers_payload c) left (begins config acts legal lawful seed at bytes left each whole) (all_recordable config acts legal lawful) in
    let fit = numbers_fit config acts legal lawful in
    let floor_fits : floor_of acts < 2 ^ 64 = omega (arith, floor_within config acts lawful, fit.0) in
    let same = same_numbers c.last c.values c.floor last values floor c.sealed sealed fit.0 fit.1 floor_fits hl hv hf (sym next.1 ∙ is) in
    same_parts c ws last values floor sealed next.0 same.0 same.1 same.2 same.3
