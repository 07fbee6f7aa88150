-- Entries and checkpoints have other kinds.
use Rattle.std.proofs.Common.{◌≡◌, ℕ, ◌+◌, Bool, true, false, ◌==◌, ◌||◌, List, [], ◌∷◌, ◌++◌, length, map, get_or, refl, sym, ap, ◌∙◌, append_assoc}
use Rattle.kv_frames.specs.Frames.{ArePayloads, BeginsWhole, IsPayload, Splits, frame, frames}
use Rattle.kv_frames.proofs.Reading.{behind}
use Rattle.kv_model.specs.Acts.{Wrote, Seal, Compact, Write}
use Rattle.kv_journal.specs.Checkpoints.{Checkpoint, checkpoint_payloads, numbers_payload, stored_payload}
use Rattle.kv_journal.specs.Entries.{Entry, payload_of, payloads_of}
use Rattle.kv_journal.specs.Records.{Content, did, did_all, closed, kind_of}
use Rattle.kv_model.specs.declared.write.Op.{Op}
use Rattle.kv_model.specs.declared.write.Op.TheVariants.{Put, Delete, Purge}
use Rattle.std.proofs.lemmas.Bool.{true≢false}

abbrev kind : List ℕ → ℕ
kind p = get_or p 4 0

abbrev pub is_kind : List ℕ → Bool
is_kind p = kind p == 7 || kind p == 8

of_write : (op : Op) → (kind_of op == 7 || kind_of op == 8) ≡ false
of_write Put = refl
of_write Delete = refl
of_write Purge = refl

-- no entry has such a kind
entry_kind : (entry : Entry) → is_kind (payload_of entry) ≡ false
entry_kind entry = by entry.loose entry.content
  where
    by : (loose : ℕ) (content : Content) → is_kind (payload_of (record { loose = loose; content = content })) ≡ false
    by loose (did (Wrote w)) = of_write w.op
    by loose (did Seal) = refl
    by loose (did (Compact floor)) = refl
    by loose (did_all acts) = refl
    by loose (closed last) = refl

module _ (seed at : ℕ) (bytes p after : List ℕ) (fits : IsPayload p) (found : bytes ≡ frame seed at p ++ after) where
  pub not_entries : is_kind p ≡ true → (entries : List Entry) (rest : List ℕ) → Splits seed at bytes (payloads_of entries) rest → ⊥
  not_entries is [] rest s = s.ended (p, after, fits, sym s.whole ∙ found)
  not_entries is (e ∷ es) rest s =
      let same = (behind seed at p (payload_of e) after rest (payloads_of es) fits s.each.0 (sym found ∙ s.whole)).0 in
      true≢false (sym is ∙ ap is_kind same ∙ entry_kind e)

  pub not_checkpoint : is_kind p ≡ false → (c : Checkpoint) (rest : List ℕ) → ArePayloads (checkpoint_payloads c) → bytes ≡ frames seed at (checkpoint_payloads c) ++ rest → ⊥
  not_checkpoint is c rest each whole = by c.writes each whole
    where
      by : (ws : List Write) → ArePayloads (map stored_payload ws ++ numbers_payload c ∷ []) → bytes ≡ frames seed at (map stored_payload ws ++ numbers_payload c ∷ []) ++ rest → ⊥
      by [] each whole = true≢false (sym (ap is_kind (behind seed at p (numbers_payload c) after rest [] fits each.0 (sym found ∙ whole)).0) ∙ is)
      by (w ∷ ws) each whole = true≢false (sym (ap is_kind (behind seed at p (stored_payload w) after rest (map stored_payload ws ++ numbers_payload c ∷ []) fits each.0 (sym found ∙ whole)).0) ∙ is)

-- where no whole frame stands, no checkpoint does
pub none_whole : (seed at : ℕ) (bytes : List ℕ) → (BeginsWhole seed at bytes → ⊥) → (c : Checkpoint) (rest : List ℕ) → ArePayloads (checkpoint_payloads c) → bytes ≡ frames seed at (checkpoint_payloads c) ++ rest → ⊥
none_whole seed at bytes none c rest each whole = by c.writes each whole
  where
    by : (ws : List Write) → ArePayloads (map stored_payload ws ++ numbers_payload c ∷ []) → bytes ≡ frames seed at (map stored_payload ws ++ numbers_payload c ∷ []) ++ rest → ⊥
    by [] each whole = none (numbers_payload c, rest, each.0, whole ∙ append_assoc (frame seed at (numbers_payload c)) [] rest)
    by (w ∷ ws) each whole =
        let more = map stored_payload ws ++ numbers_payload c ∷ [] in
        none (stored_payload w, frames seed (at + (8 + length (stored_payload w))) more ++ rest, each.0, whole ∙ append_assoc (frame seed at (stored_payload w)) (frames seed (at + (8 + length (stored_payload w))) more) rest)
