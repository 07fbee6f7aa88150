-- What is read of a file that a crash has left.
use Rattle.std.proofs.Common.{◌≡◌, ◌⊎◌, ℕ, zero, suc, ◌^◌, ◌<◌, List, [], ◌∷◌, ◌++◌, take, drop, refl, sym, ap, ◌∙◌, subst, inl, inr, arith, append_assoc}
use Rattle.std.proofs.lemmas.List.{map-append, length-map, take-append-drop}
use Rattle.kv_file.specs.File.{MayLeave}
use Rattle.kv_frames.specs.Frames.{frames, ArePayloads}
use Rattle.kv_frames.specs.Reading.{HasForeign}
use Rattle.kv_frames.proofs.Reading.{one_reading as frames_once}
use Rattle.kv_frames.proofs.Tails.{written_or_foreign}
use Rattle.kv_model.specs.Acts.{IsPrefix}
use Rattle.kv_model.specs.Configuration.{IsLegal}
use Rattle.kv_journal.specs.Entries.{Entry, payload_of, payloads_of, acts_of, AreLawful}
use Rattle.kv_journal.proofs.Going.{acts_of-append}
use Rattle.kv_durable.specs.Bases.{Base, IsLawfulBase, acts_before, opening}
use Rattle.kv_durable.specs.Files.{HasForgery, IsBeginning, IsBetween, Reads, file_of}
use Rattle.kv_durable.proofs.Bytes.{start, end_is, splits, one_seed}
use Rattle.kv_durable.proofs.Once.{lawful_front, one_list}

pub prefix_on : (xs ys zs : List ℕ) → IsPrefix xs ys → IsPrefix ys zs → IsPrefix xs zs
prefix_on xs ys zs one two = (one.0 ++ two.0, sym (append_assoc xs one.0 two.0) ∙ ap (λ (ws : List ℕ). ws ++ two.0) one.1 ∙ two.1)

map_take : (k : ℕ) (xs : List Entry) → take k (payloads_of xs) ≡ payloads_of (take k xs)
map_take zero xs = refl
map_take (suc k) [] = refl
map_take (suc k) (x ∷ xs) = ap (λ (ps : List (List ℕ)). payload_of x ∷ ps) (map_take k xs)

-- what was read by the payloads of lawful entries is these
read_entries : (base : Base) (kept maybe entries : List Entry) (k : ℕ) → IsLegal base.config → IsLawfulBase base → AreLawful base.config (acts_before base) (kept ++ maybe) → AreLawful base.config (acts_before base) entries
    → payloads_of entries ≡ payloads_of kept ++ take k (payloads_of maybe) → entries ≡ kept ++ take k maybe
read_entries base kept maybe entries k legal replaced lawful read e =
    let all : (kept ++ take k maybe) ++ drop k maybe ≡ kept ++ maybe = append_assoc kept (take k maybe) (drop k maybe) ∙ ap (λ (zs : List Entry). kept ++ zs) (take-append-drop k maybe) in
    let some = lawful_front base.config (acts_before base) (kept ++ take k maybe) (drop k maybe) (subst (AreLawful base.config (acts_before base)) (sym all) lawful) in
    let same = e ∙ ap (λ (ps : List (List ℕ)). payloads_of kept ++ ps) (map_take k maybe) ∙ sym (map-append payload_of kept (take k maybe)) in
    one_list base.config (acts_before base) legal replaced entries (kept ++ take k maybe) read some same

pub leaves_a_beginning : (seed other : ℕ) (base : Base) (kept maybe entries : List Entry) (left tail rest : List ℕ) → IsLegal base.config → seed < 2 ^ 64 → AreLawful base.config (acts_before base) (kept ++ maybe) → ArePayloads (payloads_of kept)
    → left ≡ file_of seed base kept ++ tail → Reads base left other entries rest → IsBeginning kept maybe entries ⊎ HasForgery seed base kept maybe left
leaves_a_beginning seed other base kept maybe entries left tail rest legal fits lawful payloads is reads =
    let b = start seed base in
    let there = frames seed b (payloads_of kept) ++ tail in
    let e : left ≡ opening seed base ++ there = is ∙ append_assoc (opening seed base) (frames seed b (payloads_of kept)) tail in
    let here = subst (λ (w : List ℕ). Reads base w other entries rest) e reads in
    let own = subst (λ (n : ℕ). Reads base (opening seed base ++ there) n entries rest) (one_seed seed other base there entries rest fits here) here in
    elim (written_or_foreign seed b (payloads_of kept) (payloads_of maybe) (payloads_of entries) tail rest payloads (splits seed base entries there rest own)) [
      | inl found ↦ inl (found.0, omega (arith, found.1, length-map maybe payload_of), read_entries base kept maybe entries found.0 legal own.replaced lawful own.lawful found.2)
      | inr foreign ↦ inr (tail, is, subst (λ (n : ℕ). HasForeign seed n tail (payloads_of maybe)) (end_is seed base kept) foreign)
    ]

pub after_a_crash : (seed other : ℕ) (base : Base) (kept maybe entries : List Entry) (disk loose left rest : List ℕ) → IsLegal base.config → seed < 2 ^ 64 → AreLawful base.config (acts_before base) (kept ++ maybe) → ArePayloads (payloads_of kept)
    → IsBetween seed base kept maybe disk loose → MayLeave disk loose left → Reads base left other entries rest → IsBeginning kept maybe entries ⊎ HasForgery seed base kept maybe left
after_a_crash seed other base kept maybe entries disk loose left rest legal fits lawful payloads between may reads =
    let more = between.on_disk.0 in
    let e : left ≡ file_of seed base kept ++ (more ++ may.0) =
    may.2 ∙ ap (λ (w : List ℕ). w ++ may.0) (sym between.on_disk.1) ∙ append_assoc (file_of seed base kept) more may.0 in
    leaves_a_beginning seed other base kept maybe entries left (more ++ may.0) rest legal fits lawful payloads e reads

pub one_reading : (base : Base) (bytes : List ℕ) (seed other : ℕ) (xs ys : List Entry) (rest left : List ℕ) → IsLegal base.config → Reads base bytes seed xs rest → Reads base bytes other ys left → (seed ≡ other) × (xs ≡ ys) × (rest ≡ left)
one_reading base bytes seed other xs ys rest left legal one two =
    let there = frames seed (start seed base) (payloads_of xs) ++ rest in
    let e : bytes ≡ opening seed base ++ there = one.whole ∙ append_assoc (opening seed base) (frames seed (start seed base) (payloads_of xs)) rest in
    let a = subst (λ (w : List ℕ). Reads base w seed xs rest) e one in
    let b = subst (λ (w : List ℕ). Reads base w other ys left) e two in
    let same = one_seed seed other base there ys left one.seed_fits b in
    let own = subst (λ (n : ℕ). Reads base (opening seed base ++ there) n ys left) same b in
    let parts = frames_once seed (start seed base) there (payloads_of xs) (payloads_of ys) rest left (splits seed base xs there rest a) (splits seed base ys there left own) in
    (sym same, one_list base.config (acts_before base) legal one.replaced xs ys one.lawful two.lawful parts.0, parts.1)

pub beginning_acts : (kept maybe entries : List Entry) → IsBeginning kept maybe entries → IsPrefix (acts_of kept) (acts_of entries) × IsPrefix (acts_of entries) (acts_of (kept ++ maybe))
beginning_acts kept maybe entries is =
    let k = is.0 in
    let all : entries ++ drop k maybe ≡ kept ++ maybe =
    ap (λ (zs : List Entry). zs ++ drop k maybe) is.2 ∙ append_assoc kept (take k maybe) (drop k maybe) ∙ ap (λ (zs : List Entry). kept ++ zs) (take-append-drop k maybe) in (
      (acts_of (take k maybe), sym (ap acts_of is.2 ∙ acts_of-append kept (take k maybe))),
      (acts_of (drop k maybe), sym (acts_of-append entries (drop k maybe)) ∙ ap acts_of all),
    )

pub any_moment : (seed : ℕ) (base : Base) (kept maybe : List Entry) (disk loose later_disk later_loose last_disk last_loose : List ℕ) → IsBetween seed base kept maybe disk loose → IsPrefix disk later_disk
    → IsPrefix (later_disk ++ later_loose) (last_disk ++ last_loose) → IsBetween seed base kept maybe last_disk last_loose → IsBetween seed base kept maybe later_disk later_loose
any_moment seed base kept maybe disk loose later_disk later_loose last_disk last_loose was grown more last = record {
  on_disk = prefix_on (file_of seed base kept) disk later_disk was.on_disk grown;
  no_more = prefix_on (later_disk ++ later_loose) (last_disk ++ last_loose) (file_of seed base (kept ++ maybe)) more last.no_more;
}
