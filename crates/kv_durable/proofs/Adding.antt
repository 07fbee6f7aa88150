-- Entries that are added to a journal.
use Rattle.std.proofs.Common.{◌≡◌, ℕ, zero, suc, ◌^◌, ◌<◌, ◌≤◌, Bool, List, [], ◌∷◌, ◌++◌, length, refl, sym, ap, ◌∙◌, subst, inl, inr, arith, append_assoc, append-nil, length-append}
use Rattle.std.specs.Prelude.{Result, Ok, Err, OnOk, OnErr}
use Rattle.kv_file.specs.Adding.{Adds, AddsOne, Fails}
use Rattle.kv_file.specs.Bytes.{Has}
use Rattle.kv_file.specs.declared.appender.Sync.{Sync}
use Rattle.kv_file.specs.declared.appender.Sync.TheVariants.{Asked, Each, Every}
use Rattle.kv_frames.specs.Frames.{ArePayloads, frames}
use Rattle.kv_model.specs.Acts.{Act}
use Rattle.kv_model.specs.Configuration.{Configuration}
use Rattle.kv_journal.specs.Entries.{AreLawful, Entry, acts_in, acts_of, payloads_of}
use Rattle.kv_durable.specs.Bases.{Base, IsLawfulBase, acts_before, base_payloads}
use Rattle.kv_durable.specs.Files.{IsBetween, file_of, frames_behind}
use Rattle.kv_durable.specs.Journals.{CanFollow, HasAdded, IsLeft, Keeps}
use Rattle.kv_durable.specs.declared.journal.Journal.{Journal}
use Rattle.kv_durable.proofs.Bytes.{behind_append, file_append}

-- lawful entries behind lawful ones
pub lawful_append : (config : Configuration) (before : List Act) (xs ys : List Entry) → AreLawful config before xs → AreLawful config (before ++ acts_of xs) ys → AreLawful config before (xs ++ ys)
lawful_append config before [] ys h k = subst (λ (acts : List Act). AreLawful config acts ys) (append-nil before) k
lawful_append config before (x ∷ xs) ys h k =
    (h.0, lawful_append config (before ++ acts_in x.content) xs ys h.1 (subst (λ (acts : List Act). AreLawful config acts ys) (sym (append_assoc before (acts_in x.content) (acts_of xs))) k))

pub payloads_append : (xs ys : List Entry) → ArePayloads (payloads_of xs) → ArePayloads (payloads_of ys) → ArePayloads (payloads_of (xs ++ ys))
payloads_append [] ys h k = k
payloads_append (x ∷ xs) ys h k = (h.0, payloads_append xs ys h.1 k)

-- where bytes that are added next stand
module _ (seed : ℕ) (base : Base) (kept loose entries : List Entry) (offset : ℕ) (bytes : List ℕ) (here : offset ≡ length (file_of seed base kept ++ frames_behind seed base kept loose)) (is : bytes ≡ frames seed offset (payloads_of entries)) where
  abbrev disk : List ℕ
  disk = file_of seed base kept

  abbrev more : List ℕ
  more = frames_behind seed base kept loose

  pub bytes_are : bytes ≡ frames_behind seed base (kept ++ loose) entries
  bytes_are = is ∙ ap (λ (n : ℕ). frames seed n (payloads_of entries)) (here ∙ sym (ap length (file_append seed base kept loose)))

  pub loose_too : more ++ bytes ≡ frames_behind seed base kept (loose ++ entries)
  loose_too = ap (λ (w : List ℕ). more ++ w) bytes_are ∙ sym (behind_append seed base kept loose entries)

  pub all_of : (disk ++ more) ++ bytes ≡ file_of seed base ((kept ++ loose) ++ entries)
  all_of =
      ap (λ (w : List ℕ). w ++ bytes) (sym (file_append seed base kept loose)) ∙ ap (λ (w : List ℕ). file_of seed base (kept ++ loose) ++ w) bytes_are
      ∙ sym (file_append seed base (kept ++ loose) entries)

  pub between_failed : (k l : List ℕ) → Fails disk more bytes k l → IsBetween seed base kept (loose ++ entries) k l
  between_failed k l f = record {
    on_disk = f.disk;
    no_more = (f.no_more.0, f.no_more.1 ∙ all_of ∙ ap (file_of seed base) (append_assoc kept loose entries));
  }

-- whether it is asked for that fewer than so many are loose
by_sync : {P : Type 0} (sync : Sync) → (((n : ℕ) → sync ≡ Every n → 0 < n → ⊥) → P) → ((n : ℕ) → sync ≡ Every n → 0 < n → P) → P
by_sync Each not_asked asked = not_asked (λ n e some. cc)
by_sync (Every zero) not_asked asked = not_asked (λ n e some. let none : n ≡ 0 = cc in omega (arith, none, some))
by_sync (Every (suc n)) not_asked asked = asked (suc n) refl (omega arith)
by_sync Asked not_asked asked = not_asked (λ n e some. cc)

-- where it is, fewer entries than so many are loose
abbrev AreFew : {F : Type 0} → List Entry → Journal F → Type 0
AreFew loose journal = (n : ℕ) → journal.appender.sync ≡ Every n → 0 < n → (length loose ≤ journal.appender.waiting) × (journal.appender.waiting < n)

none_are_few : {F : Type 0} (journal : Journal F) → journal.appender.waiting ≡ 0 → AreFew [] journal
none_are_few journal none = λ n e some. (omega arith, omega (arith, none, some))

module _ {F : Type 0} (has : F → List ℕ → List ℕ → Type 0) (usable : F → Bool) where
  pub added : (base : Base) (kept loose entries : List Entry) (old new : Journal F) (bytes : List ℕ) → Keeps has usable base kept loose old → CanFollow base (kept ++ loose) entries → length entries ≤ 1
      → bytes ≡ frames old.framing.seed old.appender.offset (payloads_of entries) → new.framing ≡ old.framing → new.config ≡ old.config → new.appender.sync ≡ old.appender.sync
      → ((k l : List ℕ) → Has has usable k l old.appender → (m : List ℕ) × (n : List ℕ) × Adds k l bytes m n × Has has usable m n new.appender
      × ((c : ℕ) → old.appender.sync ≡ Every c → old.appender.waiting < c → AddsOne old.appender.waiting new.appender.waiting k l bytes m n))
      → ((n : ℕ) → old.appender.sync ≡ Every n → 0 < n → new.appender.waiting < n) → HasAdded has usable base kept loose entries new
  added base kept loose entries old new bytes keeps can one is same kept_config same_sync on every =
      let seed = old.framing.seed in
      let disk = file_of seed base kept in
      let more = frames_behind seed base kept loose in
      let there = on disk more keeps.bytes in
      let here = keeps.bytes.offset in
      let lawful = lawful_append base.config (acts_before base) (kept ++ loose) entries keeps.lawful can.0 in
      let payloads = payloads_append (kept ++ loose) entries keeps.payloads can.1 in
      let own : new.framing.seed ≡ seed = ap (λ f. f.seed) same in
      let keeps_now : (k l : List Entry) → k ++ l ≡ (kept ++ loose) ++ entries → there.0 ≡ file_of seed base k → there.1 ≡ frames_behind seed base k l → AreFew l new → Keeps has usable base k l new =
      λ k l all first second few. record {
        seed_fits = subst (λ (n : ℕ). n < 2 ^ 64) (sym own) keeps.seed_fits;
        own = ap (λ c. c.config) kept_config ∙ keeps.own;
        first = keeps.first;
        replaced = keeps.replaced;
        lawful = subst (AreLawful base.config (acts_before base)) (sym all) lawful;
        payloads = subst (λ (es : List Entry). ArePayloads (payloads_of es)) (sym all) payloads;
        bytes = subst (λ (n : ℕ). Has has usable (file_of n base k) (frames_behind n base k l) new.appender) (sym own)
            (subst (λ (w : List ℕ). Has has usable w (frames_behind seed base k l) new.appender) first (subst (λ (w : List ℕ). Has has usable there.0 w new.appender) second there.3));
        few = few;
      } in
      let are_loose : there.0 ≡ disk → there.1 ≡ more ++ bytes → AreFew (loose ++ entries) new → HasAdded has usable base kept loose entries new =
      λ first second few. (
        kept,
        loose ++ entries,
        inl (refl, refl),
        keeps_now kept (loose ++ entries) (sym (append_assoc kept loose entries)) first (second ∙ loose_too seed base kept loose entries old.appender.offset bytes here is) few,
      ) in
      let alone : there.0 ≡ disk ++ more → there.1 ≡ bytes → AreFew entries new → HasAdded has usable base kept loose entries new =
      λ first second few. (
        kept ++ loose,
        entries,
        inr (inl (refl, refl)),
        keeps_now (kept ++ loose) entries refl (first ∙ sym (file_append seed base kept loose)) (second ∙ bytes_are seed base kept loose entries old.appender.offset bytes here is) few,
      ) in
      let on_disk : there.0 ≡ (disk ++ more) ++ bytes → there.1 ≡ [] → AreFew [] new → HasAdded has usable base kept loose entries new =
      λ first second few. (
        (kept ++ loose) ++ entries,
        [],
        inr (inr (refl, refl)),
        keeps_now ((kept ++ loose) ++ entries) [] (append-nil ((kept ++ loose) ++ entries)) (first ∙ all_of seed base kept loose entries old.appender.offset bytes here is) second few,
      ) in
      by_sync old.appender.sync
      (λ not_asked.
      let few : (l : List Entry) → AreFew l new = λ l n e some. absurd (not_asked n (sym same_sync ∙ e) some) in
      elim there.2 [
        | inl h ↦ are_loose h.0 h.1 (few (loose ++ entries))
        | inr other ↦ elim other [
          | inl h ↦ alone h.0 h.1 (few entries)
          | inr h ↦ on_disk h.0 h.1 (few [])
        ]
      ])
      (λ most asked some.
      let were = keeps.few most asked some in
      let few : (l : List Entry) → length l ≤ new.appender.waiting → AreFew l new = λ l at_most n e more_than. (at_most, every n (sym same_sync ∙ e) more_than) in
      elim (there.4 most asked were.1) [
        | inl h ↦ are_loose h.0 h.1 (few (loose ++ entries) (omega (arith, h.2, were.0, one, length-append loose entries)))
        | inr other ↦ elim other [
          | inl h ↦ alone h.0 h.1 (few entries (omega (arith, h.2, one)))
          | inr h ↦ on_disk h.0 h.1 (few [] (omega arith))
        ]
      ])

  pub left : (base : Base) (kept loose entries : List Entry) (old : Journal F) (file : F) (bytes : List ℕ) → Keeps has usable base kept loose old
      → bytes ≡ frames old.framing.seed old.appender.offset (payloads_of entries)
      → ((k l : List ℕ) → Has has usable k l old.appender → (m : List ℕ) × (n : List ℕ) × Fails k l bytes m n × has file m n) → IsLeft has old.framing.seed base kept (loose ++ entries) file
  left base kept loose entries old file bytes keeps is on =
      let seed = old.framing.seed in
      let there = on (file_of seed base kept) (frames_behind seed base kept loose) keeps.bytes in
      (there.0, there.1, between_failed seed base kept loose entries old.appender.offset bytes keeps.bytes.offset is there.0 there.1 there.2, there.3)

  pub flushed : (base : Base) (kept loose : List Entry) (old new : Journal F) → Keeps has usable base kept loose old → new.framing ≡ old.framing → new.config ≡ old.config → new.appender.waiting ≡ 0
      → ((k l : List ℕ) → Has has usable k l old.appender → Has has usable (k ++ l) [] new.appender) → Keeps has usable base (kept ++ loose) [] new
  flushed base kept loose old new keeps same kept_config none on =
      let seed = old.framing.seed in
      let own : new.framing.seed ≡ seed = ap (λ f. f.seed) same in
      let there = on (file_of seed base kept) (frames_behind seed base kept loose) keeps.bytes in
      record {
        seed_fits = subst (λ (n : ℕ). n < 2 ^ 64) (sym own) keeps.seed_fits;
        own = ap (λ c. c.config) kept_config ∙ keeps.own;
        first = keeps.first;
        replaced = keeps.replaced;
        lawful = subst (AreLawful base.config (acts_before base)) (sym (append-nil (kept ++ loose))) keeps.lawful;
        payloads = subst (λ (es : List Entry). ArePayloads (payloads_of es)) (sym (append-nil (kept ++ loose))) keeps.payloads;
        bytes = subst (λ (n : ℕ). Has has usable (file_of n base (kept ++ loose)) [] new.appender) (sym own)
            (subst (λ (w : List ℕ). Has has usable w [] new.appender) (sym (file_append seed base kept loose)) there);
        few = none_are_few new none;
      }

  pub not_flushed : (base : Base) (kept loose : List Entry) (old : Journal F) (file : F) → Keeps has usable base kept loose old
      → ((k l : List ℕ) → Has has usable k l old.appender → has file k l) → IsLeft has old.framing.seed base kept loose file
  not_flushed base kept loose old file keeps on =
      let seed = old.framing.seed in
      let disk = file_of seed base kept in
      let more = frames_behind seed base kept loose in (
        disk,
        more,
        record {
          on_disk = ([], append-nil disk);
          no_more = ([], append-nil (disk ++ more) ∙ sym (file_append seed base kept loose));
        },
        on disk more keeps.bytes,
      )

  pub begun : (base : Base) (entries : List Entry) (journal : Journal F) → journal.framing.seed < 2 ^ 64 → journal.config.config ≡ base.config → ArePayloads (base_payloads base) → IsLawfulBase base → CanFollow base [] entries
      → journal.appender.waiting ≡ 0 → Has has usable (file_of journal.framing.seed base entries) [] journal.appender → Keeps has usable base entries [] journal
  begun base entries journal fits own first replaced can none bytes = record {
    seed_fits = fits;
    own = own;
    first = first;
    replaced = replaced;
    lawful = subst (AreLawful base.config (acts_before base)) (sym (append-nil entries)) (subst (λ (acts : List Act). AreLawful base.config acts entries) (append-nil (acts_before base)) can.0);
    payloads = subst (λ (es : List Entry). ArePayloads (payloads_of es)) (sym (append-nil entries)) can.1;
    bytes = bytes;
    few = none_are_few journal none;
  }

-- what a call answers by the one that it makes
pub ok_on_both : {T E P Q R : Type 0} (r : Result T E) → OnOk r P → OnOk r Q → (P → Q → R) → OnOk r R
ok_on_both (Ok x) h k on = on h k
ok_on_both (Err e) h k on = tt

pub err_on : {T E P Q : Type 0} (r : Result T E) → OnErr r P → (P → Q) → OnErr r Q
err_on (Ok x) h on = tt
err_on (Err e) h on = on h
