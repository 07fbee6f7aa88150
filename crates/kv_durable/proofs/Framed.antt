-- The frame of what is told next.
use Rattle.std.proofs.Common.{◌≡◌, ℕ, List, [], ◌∷◌, ◌++◌, ap, ◌∙◌, subst}
use Rattle.kv_frames.specs.Frames.{IsPayload, frame, frames}
use Rattle.kv_journal.specs.Entries.{Entry, payload_of}
use Rattle.kv_journal.specs.Records.{Content}
use Rattle.kv_durable.specs.Journals.{IsFrameOf, loose_ahead}
use Rattle.kv_durable.specs.declared.journal.Journal.{Journal}

abbrev pub entry_of : ℕ → Content → Entry
entry_of loose content = record { loose = loose; content = content }

pub frame_is : {F : Type 0} (journal : Journal F) (content : Content) (loose : ℕ) (payload bytes : List ℕ) → loose ≡ loose_ahead journal → payload ≡ payload_of (record { loose = loose; content = content }) → IsPayload payload
    → bytes ≡ frames journal.framing.seed journal.appender.offset (payload ∷ []) → IsFrameOf journal content bytes
frame_is journal content loose payload bytes ahead is fits framed =
    let own : payload ≡ payload_of (entry_of (loose_ahead journal) content) = is ∙ ap (λ (n : ℕ). payload_of (entry_of n content)) ahead in
    record {
      are = framed ∙ ap (λ (p : List ℕ). frames journal.framing.seed journal.appender.offset (p ∷ [])) own;
      payload = subst IsPayload own fits;
    }

-- one frame more behind others
pub pushed : (seed at offset loose told : ℕ) (content : Content) (payload old new : List ℕ) → payload ≡ payload_of (entry_of loose content) → loose ≡ told → at ≡ offset → IsPayload payload
    → new ≡ old ++ frame seed at payload → (new ≡ old ++ frame seed offset (payload_of (entry_of told content))) × IsPayload (payload_of (entry_of told content))
pushed seed at offset loose told content payload old new is same here fits on =
    let own : payload ≡ payload_of (entry_of told content) = is ∙ ap (λ (n : ℕ). payload_of (entry_of n content)) same in
    (on ∙ ap (λ (p : List ℕ). old ++ frame seed at p) own ∙ ap (λ (n : ℕ). old ++ frame seed n (payload_of (entry_of told content))) here, subst IsPayload own fits)
