-- What the frames of a checkpoint tell, one after the other.
use Rattle.std.proofs.Common.{◌≡◌, ℕ, ◌+◌, ◌^◌, ◌<◌, List, [], ◌∷◌, ◌++◌, length, map, drop, refl, sym, ap, ◌∙◌, subst}
use Rattle.std.specs.Prelude.{◌≢◌, Bool, MatchOption, None, Option, Some}
use Rattle.std.specs.Int.{w32, to_be_bytes}
use Rattle.std.proofs.lemmas.List.{map-append}
use Rattle.kv_frames.specs.Frames.{ArePayloads, BeginsWhole, IsPayload, frame, frames, offset_after}
use Rattle.kv_frames.proofs.Reading.{IsRead, read_on}
use Rattle.kv_model.specs.Acceptance.{IsLawful}
use Rattle.kv_model.specs.Acts.{Act, Wrote, Write}
use Rattle.kv_model.specs.Compaction.{stored_writes}
use Rattle.kv_model.specs.Configuration.{Configuration, IsLegal}
use Rattle.kv_model.specs.Requests.{asked, write_for}
use Rattle.kv_model.specs.declared.request.Request.{Request}
use Rattle.kv_journal.specs.Checkpoints.{Checkpoint, checkpoint_of, checkpoint_payloads, numbers_bytes, numbers_payload, numbers_record, settled_payload, stored_payload}
use Rattle.kv_journal.specs.Records.{IsRecordableAct, write_record}
use Rattle.kv_journal.specs.Restored.{IsOnly}
use Rattle.kv_journal.specs.declared.numbers.Numbers.{Numbers}
use Rattle.kv_journal.specs.inside.Contents.{writes_told}
use Rattle.kv_journal.proofs.OnlyCheckpoint.{only_this}
use Rattle.kv_journal.proofs.Unrefused.{AreFirst, all_recordable, begins, none_first, none_next, not_cut_short, one_first}

-- a kind of 7, a revision and the record of a write are the payload of that write at the revision
pub stored_so : (w : Write) (revision : ℕ) (payload behind bytes : List ℕ) → payload ≡ settled_payload (7 ∷ behind) → behind ≡ to_be_bytes w32 revision ++ bytes
    → write_record w.op w.key w.value ≡ bytes → w.revision ≡ revision → stored_payload w ≡ payload
stored_so w revision payload behind bytes kind number told at =
    ap (λ (n : ℕ). settled_payload (7 ∷ (to_be_bytes w32 n ++ write_record w.op w.key w.value))) at
    ∙ ap (λ (xs : List ℕ). settled_payload (7 ∷ (to_be_bytes w32 revision ++ xs))) told
    ∙ ap (λ (xs : List ℕ). settled_payload (7 ∷ xs)) (sym number)
    ∙ sym kind

-- so far these writes are told: their frames stand in front of the rest, and each checkpoint at the front begins with them
pub record AreTold (seed at : ℕ) (bytes : List ℕ) (ws : List Write) (offset : ℕ) (rest : List ℕ) : Type 0 where
  pub read : IsRead seed at bytes (map stored_payload ws) offset rest
  pub first : AreFirst seed at bytes ws offset rest

nothing_told : (seed at : ℕ) (bytes : List ℕ) → AreTold seed at bytes [] at bytes
nothing_told seed at bytes = record {
  read = record { whole = refl; each = tt; here = refl; within = refl };
  first = none_first seed at bytes;
}

-- before the first frame none is told
pub none_told : (seed at : ℕ) (bytes : List ℕ) (told : List (ℕ × Request)) → told ≡ [] → AreTold seed at bytes (writes_told told) at bytes
none_told seed at bytes told none =
    subst (λ (ts : List (ℕ × Request)). AreTold seed at bytes (writes_told ts) at bytes) (sym none) (nothing_told seed at bytes)

module _ (seed at : ℕ) (bytes : List ℕ) (offset : ℕ) (rest p after : List ℕ) (fits : IsPayload p) (found : rest ≡ frame seed offset p ++ after) where
  -- the next frame tells one more
  one_told : (ws : List Write) → AreTold seed at bytes ws offset rest → (w : Write) → stored_payload w ≡ p → w.revision < 2 ^ 32 → AreTold seed at bytes (ws ++ w ∷ []) (offset + (8 + length p)) after
  one_told ws are w is small =
      let all : map stored_payload ws ++ p ∷ [] ≡ map stored_payload (ws ++ w ∷ []) = ap (λ (q : List ℕ). map stored_payload ws ++ q ∷ []) (sym is) ∙ sym (map-append stored_payload ws (w ∷ [])) in
      record {
        read = subst (λ (ps : List (List ℕ)). IsRead seed at bytes ps (offset + (8 + length p)) after) all (read_on seed at bytes (map stored_payload ws) offset rest p after are.read fits found);
        first = one_first seed at bytes ws offset rest p after are.first fits found w is small;
      }

  -- the same of what is pushed: a revision and what asks for the write
  pub one_pushed : (told pushed : List (ℕ × Request)) (t : ℕ × Request) → pushed ≡ told ++ t ∷ [] → AreTold seed at bytes (writes_told told) offset rest → stored_payload (write_for (asked t.1) t.0) ≡ p → t.0 < 2 ^ 32
      → AreTold seed at bytes (writes_told pushed) (offset + (8 + length p)) after
  one_pushed told pushed t push are is small =
      let write : ℕ × Request → Write = λ u. write_for (asked u.1) u.0 in
      let all : writes_told told ++ write t ∷ [] ≡ writes_told pushed = sym (map-append write told (t ∷ [])) ∙ ap (λ (ts : List (ℕ × Request)). writes_told ts) (sym push) in
      subst (λ (ws : List Write). AreTold seed at bytes ws (offset + (8 + length p)) after) all (one_told (writes_told told) are (write t) is small)

  module _ (none : (w : Write) → IsRecordableAct (Wrote w) → w.revision < 2 ^ 32 → stored_payload w ≡ p → ⊥) where
    -- behind the last of them stand the numbers
    pub all_told : (c : Checkpoint) → AreTold seed at bytes c.writes offset rest → c.last < 2 ^ 64 → c.values < 2 ^ 64 → c.floor < 2 ^ 64 → p ≡ numbers_payload c
        → (left : List ℕ) × (bytes ≡ frames seed at (checkpoint_payloads c) ++ left) × ArePayloads (checkpoint_payloads c) × (offset + (8 + length p) ≡ offset_after at (checkpoint_payloads c))
        × ((config : Configuration) → IsLegal config → IsOnly config seed at bytes c)
    all_told c are last values floor says =
        let all : map stored_payload c.writes ++ p ∷ [] ≡ checkpoint_payloads c = ap (λ (q : List ℕ). map stored_payload c.writes ++ q ∷ []) says in
        let read = subst (λ (ps : List (List ℕ)). IsRead seed at bytes ps (offset + (8 + length p)) after) all (read_on seed at bytes (map stored_payload c.writes) offset rest p after are.read fits found) in
        (after, read.whole, read.each, read.here, λ config legal. only_this config seed at bytes c.writes offset rest are.first legal p after fits found none c.last c.values c.floor c.sealed last values floor says)

    -- a checkpoint stands there only where the next frame has numbers
    pub no_numbers : (ws : List Write) → AreTold seed at bytes ws offset rest → ((last values floor : ℕ) (sealed : Bool) → p ≢ settled_payload (numbers_record last values floor sealed))
        → (config : Configuration) (acts : List Act) (left : List ℕ) → IsLegal config → IsLawful config acts → ArePayloads (checkpoint_payloads (checkpoint_of config acts)) → bytes ≡ frames seed at (checkpoint_payloads (checkpoint_of config acts)) ++ left → ⊥
    no_numbers ws are not config acts left legal lawful each whole =
        let c = checkpoint_of config acts in
        let next = none_next seed at bytes ws offset rest p after are.first fits found none (stored_writes config.history acts) (numbers_payload c) left (begins config acts legal lawful seed at bytes left each whole) (all_recordable config acts legal lawful) in
        not c.last c.values c.floor c.sealed next.1

-- and none stands where no whole frame follows
pub no_frame : (seed at : ℕ) (bytes : List ℕ) (ws : List Write) (offset : ℕ) (rest : List ℕ) → AreTold seed at bytes ws offset rest → (BeginsWhole seed offset rest → ⊥)
    → (config : Configuration) (acts : List Act) (left : List ℕ) → IsLegal config → IsLawful config acts → ArePayloads (checkpoint_payloads (checkpoint_of config acts)) → bytes ≡ frames seed at (checkpoint_payloads (checkpoint_of config acts)) ++ left → ⊥
no_frame seed at bytes ws offset rest are not config acts left legal lawful each whole =
    not_cut_short config seed at bytes ws offset rest are.first legal not acts left lawful each whole

-- the numbers behind the kind of their record
pub numbers_behind : (o : Option Numbers) (rest p : List ℕ) → p ≡ settled_payload (8 ∷ rest)
    → MatchOption o ((last values floor : ℕ) (sealed : Bool) → rest ≢ numbers_bytes last values floor sealed) (λ n. rest ≡ numbers_bytes n.last n.values n.floor n.sealed)
    → MatchOption o ((last values floor : ℕ) (sealed : Bool) → p ≢ settled_payload (numbers_record last values floor sealed)) (λ n. p ≡ settled_payload (numbers_record n.last n.values n.floor n.sealed))
numbers_behind None rest p is h = λ last values floor sealed e. h last values floor sealed (ap (λ (xs : List ℕ). drop 5 xs) (sym is ∙ e))
numbers_behind (Some n) rest p is h = is ∙ ap (λ (xs : List ℕ). settled_payload (8 ∷ xs)) h
