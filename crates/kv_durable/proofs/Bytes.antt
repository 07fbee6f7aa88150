-- The bytes of a file, by its entries.
use Rattle.std.proofs.Common.{◌≡◌, ℕ, ◌^◌, ◌<◌, List, [], ◌∷◌, ◌++◌, length, sym, ap, ◌∙◌, subst, append_assoc, append-nil, length-append}
use Rattle.std.proofs.lemmas.List.{map-append, append_cancel_left}
use Rattle.kv_frames.specs.Frames.{ArePayloads, frame, frames, offset_after, BeginsWhole, Splits}
use Rattle.kv_frames.proofs.Reading.{frames-append, offset_is}
use Rattle.kv_model.specs.Configuration.{Configuration}
use Rattle.kv_journal.specs.Header.{beginning, configuration_payload, header}
use Rattle.kv_journal.specs.Entries.{Entry, payload_of, payloads_of, AreLawful}
use Rattle.kv_journal.proofs.Front.{one_header}
use Rattle.kv_durable.specs.Bases.{Base, IsLawfulBase, acts_before, base_payloads, fresh, opening}
use Rattle.kv_durable.specs.Files.{Reads, file_of, frames_behind}

-- where a file's entries begin
abbrev pub start : ℕ → Base → ℕ
start seed base = length (opening seed base)

-- where they end
pub end_is : (seed : ℕ) (base : Base) (entries : List Entry) → offset_after (start seed base) (payloads_of entries) ≡ length (file_of seed base entries)
end_is seed base entries =
    offset_is seed (start seed base) (payloads_of entries) ∙ sym (length-append (opening seed base) (frames seed (start seed base) (payloads_of entries)))

-- a file of more entries
pub file_append : (seed : ℕ) (base : Base) (first second : List Entry) → file_of seed base (first ++ second) ≡ file_of seed base first ++ frames_behind seed base first second
file_append seed base first second =
    let b = start seed base in
    let front = frames seed b (payloads_of first) in
    ap (λ (ps : List (List ℕ)). opening seed base ++ frames seed b ps) (map-append payload_of first second)
    ∙ ap (λ (xs : List ℕ). opening seed base ++ xs) (frames-append seed b (payloads_of first) (payloads_of second))
    ∙ ap (λ (n : ℕ). opening seed base ++ (front ++ frames seed n (payloads_of second))) (end_is seed base first)
    ∙ sym (append_assoc (opening seed base) front (frames_behind seed base first second))

-- frames behind the ones and the others
pub behind_append : (seed : ℕ) (base : Base) (first second third : List Entry) → frames_behind seed base first (second ++ third) ≡ frames_behind seed base first second ++ frames_behind seed base (first ++ second) third
behind_append seed base first second third =
    let at = length (file_of seed base first) in
    let there : offset_after at (payloads_of second) ≡ length (file_of seed base (first ++ second)) =
    offset_is seed at (payloads_of second) ∙ sym (ap length (file_append seed base first second) ∙ length-append (file_of seed base first) (frames_behind seed base first second)) in
    ap (λ (ps : List (List ℕ)). frames seed at ps) (map-append payload_of second third)
    ∙ frames-append seed at (payloads_of second) (payloads_of third)
    ∙ ap (λ (n : ℕ). frames_behind seed base first second ++ frames seed n (payloads_of third)) there

-- one frame
pub one_behind : (seed : ℕ) (base : Base) (first : List Entry) (entry : Entry) → frames_behind seed base first (entry ∷ []) ≡ frame seed (length (file_of seed base first)) (payload_of entry)
one_behind seed base first entry = append-nil (frame seed (length (file_of seed base first)) (payload_of entry))

-- behind the beginning the file is read as frames
pub splits : (seed : ℕ) (base : Base) (entries : List Entry) (frames_there rest : List ℕ) → Reads base (opening seed base ++ frames_there) seed entries rest
    → Splits seed (start seed base) frames_there (payloads_of entries) rest
splits seed base entries frames_there rest reads = record {
  whole = append_cancel_left (opening seed base) frames_there (frames seed (start seed base) (payloads_of entries) ++ rest)
      (reads.whole ∙ append_assoc (opening seed base) (frames seed (start seed base) (payloads_of entries)) rest);
  each = reads.each;
  ended = subst (λ (n : ℕ). BeginsWhole seed n rest → ⊥) (sym (end_is seed base entries)) reads.ended;
}

-- and the other way
pub reads_frames : (seed : ℕ) (base : Base) (entries : List Entry) (frames_there rest : List ℕ) → seed < 2 ^ 64 → ArePayloads (base_payloads base) → IsLawfulBase base → AreLawful base.config (acts_before base) entries
    → Splits seed (start seed base) frames_there (payloads_of entries) rest → Reads base (opening seed base ++ frames_there) seed entries rest
reads_frames seed base entries frames_there rest fits first replaced lawful s = record {
  seed_fits = fits;
  first = first;
  replaced = replaced;
  whole = ap (λ (xs : List ℕ). opening seed base ++ xs) s.whole ∙ sym (append_assoc (opening seed base) (frames seed (start seed base) (payloads_of entries)) rest);
  each = s.each;
  lawful = lawful;
  ended = subst (λ (n : ℕ). BeginsWhole seed n rest → ⊥) (end_is seed base entries) s.ended;
}

-- what a file begins with shows its seed
abbrev pub base_frames : ℕ → Base → List ℕ
base_frames seed base = frames seed (length (beginning seed base.config)) (base_payloads base)

pub header_first : (seed : ℕ) (base : Base) (xs : List ℕ) → opening seed base ++ xs ≡ header seed ++ (frame seed 17 (configuration_payload base.config) ++ (base_frames seed base ++ xs))
header_first seed base xs =
    append_assoc (beginning seed base.config) (base_frames seed base) xs ∙ append_assoc (header seed) (frame seed 17 (configuration_payload base.config)) (base_frames seed base ++ xs)

-- with no checkpoint it is header and configuration
pub fresh_opening : (seed : ℕ) (config : Configuration) → opening seed (fresh config) ≡ beginning seed config
fresh_opening seed config = append-nil (beginning seed config)

pub one_seed : (seed other : ℕ) (base : Base) (xs : List ℕ) (entries : List Entry) (rest : List ℕ) → seed < 2 ^ 64 → Reads base (opening seed base ++ xs) other entries rest → other ≡ seed
one_seed seed other base xs entries rest fits reads =
    let there = frames other (start other base) (payloads_of entries) in
    let e = sym (header_first seed base xs) ∙ reads.whole ∙ append_assoc (opening other base) there rest ∙ header_first other base (there ++ rest) in
    sym (one_header seed other (frame seed 17 (configuration_payload base.config) ++ (base_frames seed base ++ xs)) (frame other 17 (configuration_payload base.config) ++ (base_frames other base ++ (there ++ rest))) fits reads.seed_fits e).0
