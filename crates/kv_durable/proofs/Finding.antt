-- What an opening finds.
use Rattle.std.proofs.Common.{◌≡◌, ◌⊎◌, ℕ, Bool, true, false, ◌≤◌, List, [], ◌∷◌, ◌++◌, length, take, drop, Result, Ok, Err, refl, sym, ap, ◌∙◌, subst, inl, inr, append_assoc, append-nil, arith, length-append}
use Rattle.std.specs.Prelude.{OnErr, OnOk, IfErr, IfOk}
use Rattle.std.proofs.lemmas.Bool.{cond-true}
use Rattle.std.proofs.lemmas.List.{nil_from_length, take-append-drop}
use Rattle.std.proofs.Math.Seq.{take-append_seam}
use Rattle.kv_keys.specs.Grammar.{is_name}
use Rattle.kv_keys.specs.Outcome.{Refuses}
use Rattle.kv_keys.specs.declared.error.KvError.{KvError}
use Rattle.kv_keys.specs.declared.error.KvError.TheVariants.{BadBucket, BadConfig, OutOfMemory}
use Rattle.kv_model.specs.Acts.{Act}
use Rattle.kv_model.specs.Configuration.{Configuration, IsLegal, configure, has_legal_numbers}
use Rattle.kv_model.specs.State.{empty}
use Rattle.kv_store.specs.Stored.{Stored}
use Rattle.kv_single.specs.Held.{Bucketed, Represents}
use Rattle.kv_journal.specs.Header.{beginning}
use Rattle.kv_journal.specs.Damage.{ShowsDamage}
use Rattle.kv_frames.specs.Frames.{ArePayloads}
use Rattle.kv_journal.specs.Entries.{AreLawful, Entry, acts_of}
use Rattle.kv_durable.specs.Bases.{Base, IsBaseOf, IsLawfulBase, acts_before, base_payloads, fresh, opening}
use Rattle.kv_durable.specs.Durables.{IsAt, state_of}
use Rattle.kv_durable.specs.Files.{Reads, file_of}
use Rattle.kv_durable.specs.Journals.{CanFollow, Keeps}
use Rattle.kv_durable.specs.Openings.{HasRead, IsFound, IsFoundIn, IsNew, IsReopened, IsReopenedOn, LeavesBytes, TellsBase}
use Rattle.kv_durable.specs.Refusals.{IsDamaged}
use Rattle.kv_durable.specs.declared.durable.Durable.{Durable}
use Rattle.kv_durable.specs.declared.open.Found.{Found}
use Rattle.kv_durable.specs.declared.error.DurableError.{DurableError}
use Rattle.kv_durable.proofs.Readings.{opening_is}
use Rattle.kv_durable.proofs.Starting.{knows_fresh, no_checkpoint, none_before}

-- a legal configuration is not refused
pub legal_ok : (config : Configuration) → IsLegal config → configure config ≡ Ok config
legal_ok config legal =
    cond-true (is_name config.bucket) _ (Err BadBucket) legal.0 ∙ cond-true (has_legal_numbers config) (Ok config) (Err BadConfig) legal.1

pub memory_of_legal : (config : Configuration) → IsLegal config → Refuses OutOfMemory (configure config)
memory_of_legal config legal = subst (λ (r : Result Configuration KvError). Refuses OutOfMemory r) (sym (legal_ok config legal)) refl

pub legal_from : (config : Configuration) (bucket : Bucketed) → Represents (empty config) bucket → IsLegal config
legal_from config bucket r = subst IsLegal r.config r.version.legal

-- a bucket of a version
pub of_version : (config : Configuration) (version : Stored) (acts : List Act) (bucket : Bucketed) → version.config ≡ config → Represents (record { config = version.config; acts = acts; watches = [] }) bucket → Represents (state_of config acts) bucket
of_version config version acts bucket same r = subst (λ (c : Configuration). Represents (state_of c acts) bucket) same r

-- bytes that were cut, or were not
pub cut_parts : {F : Type 0} (has : F → List ℕ → List ℕ → Type 0) (file : F) (len : ℕ) (kept loose : List ℕ) → (m : ℕ) × (len ≤ m) × has file (take m kept) (drop m kept ++ loose)
    → (k : List ℕ) × (l : List ℕ) × (k ++ l ≡ kept ++ loose) × has file k l
cut_parts has file len kept loose h =
    let m = h.0 in
    (take m kept, drop m kept ++ loose, sym (append_assoc (take m kept) (drop m kept) loose) ∙ ap (λ (w : List ℕ). w ++ loose) (take-append-drop m kept), h.2)

-- what is read lies in front
pub front_of : (base : Base) (bytes : List ℕ) (seed offset : ℕ) (entries : List Entry) (rest : List ℕ) → Reads base bytes seed entries rest → offset ≡ length (file_of seed base entries) → take offset bytes ≡ file_of seed base entries
front_of base bytes seed offset entries rest reads here =
    ap (λ (n : ℕ). take n bytes) here ∙ ap (take (length (file_of seed base entries))) reads.whole ∙ take-append_seam (file_of seed base entries) rest

both_empty : (xs ys : List ℕ) → xs ++ ys ≡ [] → (xs ≡ []) × (ys ≡ [])
both_empty xs ys e =
    let long = sym (length-append xs ys) ∙ ap length e in
    (nil_from_length xs (omega (arith, long)), nil_from_length ys (omega (arith, long)))

pub from_empty : {F : Type 0} (has : F → List ℕ → List ℕ → Type 0) (file : F) (kept loose : List ℕ) → kept ++ loose ≡ [] → has file kept loose → has file [] []
from_empty has file kept loose none h =
    let both = both_empty kept loose none in
    subst (λ (w : List ℕ). has file w []) both.0 (subst (λ (w : List ℕ). has file kept w) both.1 h)

-- a file with no checkpoint goes on from this
pub is_fresh : (config : Configuration) (payloads : List (List ℕ)) → payloads ≡ [] → IsBaseOf config payloads (fresh config)
is_fresh config payloads none = record { same = refl; lawful = tt; stands = sym none }

-- the journal of what was found keeps its entries, whatever it goes on from
abbrev pub KeepsFound : {F : Type 0} (has : F → List ℕ → List ℕ → Type 0) (usable : F → Bool) (new : F) → Found → Durable F → Type 0
KeepsFound has usable new found durable = (base : Base) (entries : List Entry) → found.config.config ≡ base.config → ArePayloads (base_payloads base) → IsLawfulBase base → CanFollow base [] entries
    → has new (file_of found.framing.seed base entries) [] → found.offset ≡ length (file_of found.framing.seed base entries) → Keeps has usable base entries [] durable.journal

module _ {F : Type 0} (has : F → List ℕ → List ℕ → Type 0) (usable : F → Bool) where
  pub found_at : (base : Base) (entries : List Entry) (found : Found) (durable : Durable F) → Represents (state_of base.config (acts_before base ++ acts_of entries)) found.bucket → durable.bucket ≡ found.bucket → Keeps has usable base entries [] durable.journal
      → IsAt has usable (state_of base.config (acts_before base ++ acts_of entries)) entries [] durable
  found_at base entries found durable represents bucket keeps = record {
    base = base;
    config = refl;
    represents = subst (Represents (state_of base.config (acts_before base ++ acts_of entries))) (sym bucket) represents;
    acts = ap (λ (es : List Entry). acts_before base ++ acts_of es) (sym (append-nil entries));
    keeps = keeps;
  }

  -- what an opening made of what it found
  pub opened_new : (config : Configuration) (seed : ℕ) (new : F) (found : Found) (durable : Durable F) (dropped : ℕ) → IsFound config seed [] [] [] found → durable.bucket ≡ found.bucket → dropped ≡ found.dropped
      → durable.journal.framing ≡ found.framing → has new (file_of found.framing.seed (fresh config) []) [] → KeepsFound has usable new found durable → IsNew has usable config seed durable dropped
  unfolding found_at
  opened_new config seed new found durable dropped is bucket told framing there keeps =
      let b = is_fresh config [] refl in
      record {
        has_seed = ap (λ f. f.seed) framing ∙ (is.new refl).0;
        at = found_at (fresh config) [] found durable (is.represents (fresh config) b) bucket (keeps (fresh config) [] is.own tt tt (tt, tt) there (is.offset (fresh config) b));
        based = refl;
        none = told ∙ (is.new refl).2;
      }

  pub opened_again : (config : Configuration) (seed : ℕ) (new : F) (bytes : List ℕ) (payloads : List (List ℕ)) (entries : List Entry) (found : Found) (durable : Durable F) (dropped : ℕ) (checkpointed : Bool) → (bytes ≡ [] → ⊥) → IsFound config seed bytes payloads entries found
      → durable.bucket ≡ found.bucket → dropped ≡ found.dropped → checkpointed ≡ found.checkpointed → durable.journal.framing ≡ found.framing
      → ((base : Base) → IsBaseOf config payloads base → has new (file_of found.framing.seed base entries) []) → KeepsFound has usable new found durable → IsReopenedOn has usable config bytes durable dropped checkpointed
  unfolding found_at
  opened_again config seed new bytes payloads entries found durable dropped checkpointed some is bucket told kind framing there keeps =
      let read = is.read some in
      let i = read.1 in
      record {
        payloads = payloads;
        entries = entries;
        rest = read.0;
        tells = subst (TellsBase config bytes payloads) (sym kind) i.tells;
        each = λ base b.
            let reads = i.reads base b in
            let lawful = subst (λ (acts : List Act). AreLawful base.config acts entries) (sym (append-nil (acts_before base))) reads.lawful in
            let represents = subst (λ (c : Configuration). Represents (state_of c (acts_before base ++ acts_of entries)) found.bucket) (sym b.same) (i.represents base b) in
            record {
              reads = subst (λ (n : ℕ). Reads base bytes n entries read.0) (sym (ap (λ f. f.seed) framing)) reads;
              at = found_at base entries found durable represents bucket (keeps base entries (i.own ∙ sym b.same) reads.first b.lawful (lawful, reads.each) (there base b) (i.offset base b));
              based = refl;
              told = told ∙ i.told;
            };
      }

-- ---- what was found

abbrev pub IsGone : {F : Type 0} (has : F → List ℕ → List ℕ → Type 0) (usable : F → Bool) → Configuration → ℕ → (old new : F) → Found → Type 0
IsGone has usable config seed old new found = (bytes : List ℕ) × (payloads : List (List ℕ)) × (entries : List Entry) × IsFound config seed bytes payloads entries found
    × ((kept loose : List ℕ) → has old kept loose → bytes ≡ kept ++ loose)
    × (usable old ≡ true → (kept loose : List ℕ) → has old kept loose → (base : Base) → IsBaseOf config payloads base → has new (file_of found.framing.seed base entries) [])

module _ {F : Type 0} (has : F → List ℕ → List ℕ → Type 0) (usable : F → Bool) (config : Configuration) (seed : ℕ) (old mid new : F) (bytes : List ℕ)
    (are : (kept loose : List ℕ) → has old kept loose → bytes ≡ kept ++ loose) (same : (kept loose : List ℕ) → has old kept loose → has mid kept loose) (still : usable mid ≡ usable old) where
  pub begun_found : (r : Result Found DurableError) → bytes ≡ []
      → IfOk r (λ found. Represents (empty config) found.bucket × (found.framing.seed ≡ seed) × (found.offset ≡ length (beginning seed config)) × (found.dropped ≡ 0) × (found.checkpointed ≡ false) × (found.config.config ≡ config))
      → OnOk r (usable mid ≡ true → has mid [] [] → has new (beginning seed config) []) → IfOk r (IsGone has usable config seed old new)
  begun_found (Err e) none ok file = tt
  begun_found (Ok found) none ok file =
      let whole : (base : Base) → IsBaseOf config [] base → (n : ℕ) → n ≡ seed → file_of n base [] ≡ beginning seed config =
      λ base b n is. append-nil (opening n base) ∙ opening_is n config [] base b ∙ append-nil (beginning n config) ∙ ap (λ (m : ℕ). beginning m config) is in (
        bytes,
        [],
        [],
        record {
          own = ok.5;
          plain = λ _. refl;
          knows = knows_fresh config found.checkpointed;
          represents = λ base b. subst (λ (acts : List Act). Represents (state_of config (acts ++ [])) found.bucket) (sym (none_before base b.stands)) ok.0;
          offset = λ base b. ok.2 ∙ ap length (sym (whole base b found.framing.seed ok.1));
          new = λ _. (ok.1, refl, ok.3, refl, ok.4);
          read = λ some. absurd (some none);
        },
        are,
        (λ usable_old kept loose h base b. subst (λ (w : List ℕ). has new w []) (sym (whole base b found.framing.seed ok.1))
            (file (still ∙ usable_old) (from_empty has mid kept loose (sym (are kept loose h) ∙ none) (same kept loose h)))),
      )

  pub reads_found : (r : Result Found DurableError) → (bytes ≡ [] → ⊥)
      → IfOk r (λ found. (payloads : List (List ℕ)) × (entries : List Entry) × (rest : List ℕ) × IsFoundIn config bytes payloads entries rest found)
      → IfOk r (λ found. usable mid ≡ true → (kept loose : List ℕ) → has mid kept loose → has new (take found.offset (kept ++ loose)) []) → IfOk r (IsGone has usable config seed old new)
  reads_found (Err e) some ok file = tt
  reads_found (Ok found) some ok file =
      let i = ok.3 in (
        bytes,
        ok.0,
        ok.1,
        record {
          own = i.own;
          plain = i.tells.plain;
          knows = i.knows;
          represents = i.represents;
          offset = i.offset;
          new = λ none. absurd (some none);
          read = λ _. (ok.2, i);
        },
        are,
        (λ usable_old kept loose h base b.
            let there = file (still ∙ usable_old) kept loose (same kept loose h) in
            let front = ap (take found.offset) (sym (are kept loose h)) ∙ front_of base bytes found.framing.seed found.offset ok.1 ok.2 (i.reads base b) (i.offset base b) in
            subst (λ (w : List ℕ). has new w []) front there),
      )

  pub begun_handed : {T : Type 0} (r : Result T DurableError) → bytes ≡ [] → OnErr r (usable mid ≡ true → has mid [] [] → has new [] [] ⊎ has new (beginning seed config) [])
      → OnErr r (usable old ≡ true → (kept loose : List ℕ) → has old kept loose → LeavesBytes has config seed kept loose new)
  begun_handed (Ok x) none on = tt
  begun_handed (Err e) none on = λ usable_old kept loose h.
      let empty_is = sym (are kept loose h) ∙ none in
      elim (on (still ∙ usable_old) (from_empty has mid kept loose empty_is (same kept loose h))) [
        | inl none_there ↦ inl ([], [], sym empty_is, none_there)
        | inr all_there ↦ inr (empty_is, all_there)
      ]

  pub reads_handed : {T : Type 0} (r : Result T DurableError) → OnErr r (usable mid ≡ true → (kept loose : List ℕ) → has mid kept loose → (k : List ℕ) × (l : List ℕ) × (k ++ l ≡ kept ++ loose) × has new k l)
      → OnErr r (usable old ≡ true → (kept loose : List ℕ) → has old kept loose → LeavesBytes has config seed kept loose new)
  reads_handed (Ok x) on = tt
  reads_handed (Err e) on = λ usable_old kept loose h. inl (on (still ∙ usable_old) kept loose (same kept loose h))

  pub reads_torn : {T : Type 0} (r : Result T DurableError) → IfOk r (λ _. (base : Base) (other : ℕ) (entries : List Entry) (rest : List ℕ) → base.config ≡ config → Reads base bytes other entries rest → ShowsDamage other (length (file_of other base entries)) rest → ⊥)
      → IfOk r (λ _. (kept loose : List ℕ) → has old kept loose → (base : Base) (other : ℕ) (entries : List Entry) (rest : List ℕ) → base.config ≡ config → Reads base (kept ++ loose) other entries rest → ShowsDamage other (length (file_of other base entries)) rest → ⊥)
  reads_torn (Ok x) on = λ kept loose h base other entries rest own reads. on base other entries rest own (subst (λ (w : List ℕ). Reads base w other entries rest) (sym (are kept loose h)) reads)
  reads_torn (Err e) on = tt

  pub reads_damaged : {T : Type 0} (r : Result T DurableError) → IfErr r (λ e. IsDamaged e → (base : Base) (other : ℕ) (entries : List Entry) (rest : List ℕ) → base.config ≡ config → Reads base bytes other entries rest → ShowsDamage other (length (file_of other base entries)) rest)
      → IfErr r (λ e. IsDamaged e → (kept loose : List ℕ) → has old kept loose → (base : Base) (other : ℕ) (entries : List Entry) (rest : List ℕ) → base.config ≡ config → Reads base (kept ++ loose) other entries rest → ShowsDamage other (length (file_of other base entries)) rest)
  reads_damaged (Ok x) on = tt
  reads_damaged (Err e) on = λ is kept loose h base other entries rest own reads. on is base other entries rest own (subst (λ (w : List ℕ). Reads base w other entries rest) (sym (are kept loose h)) reads)

-- what was opened is new where the file was empty
pub new_opened : {F : Type 0} (has : F → List ℕ → List ℕ → Type 0) (usable : F → Bool) (config : Configuration) (seed : ℕ) (old new : F) (found : Found) (durable : Durable F) (dropped : ℕ) (checkpointed : Bool) → IsGone has usable config seed old new found
    → usable old ≡ true → has old [] [] → durable.bucket ≡ found.bucket → dropped ≡ found.dropped → checkpointed ≡ found.checkpointed → durable.journal.framing ≡ found.framing → KeepsFound has usable new found durable
    → (checkpointed ≡ false) × IsNew has usable config seed durable dropped
new_opened has usable config seed old new found durable dropped checkpointed gone works h bucket told kind framing keeps =
    let none : gone.0 ≡ [] = gone.4 [] [] h in
    let is = subst (λ (bs : List ℕ). IsFound config seed bs gone.1 gone.2 found) none gone.3 in
    let n = is.new refl in
    let plain = subst (λ (ps : List (List ℕ)). IsFound config seed [] ps gone.2 found) n.3 is in
    let there = gone.5 works [] [] h (fresh config) (is_fresh config gone.1 n.3) in (
      kind ∙ n.4,
      opened_new has usable config seed new found durable dropped (subst (λ (es : List Entry). IsFound config seed [] [] es found) n.1 plain) bucket told framing
          (subst (λ (es : List Entry). has new (file_of found.framing.seed (fresh config) es) []) n.1 there) keeps,
    )

-- and is at what its bytes are read as where it was not
pub again_opened : {F : Type 0} (has : F → List ℕ → List ℕ → Type 0) (usable : F → Bool) (config : Configuration) (seed : ℕ) (old new : F) (found : Found) (durable : Durable F) (dropped : ℕ) (checkpointed : Bool) → IsGone has usable config seed old new found
    → usable old ≡ true → durable.bucket ≡ found.bucket → dropped ≡ found.dropped → checkpointed ≡ found.checkpointed → durable.journal.framing ≡ found.framing → KeepsFound has usable new found durable
    → (kept loose : List ℕ) → has old kept loose → (kept ++ loose ≡ [] → ⊥) → IsReopenedOn has usable config (kept ++ loose) durable dropped checkpointed
again_opened {F} has usable config seed old new found durable dropped checkpointed gone works bucket told kind framing keeps kept loose h some =
    let are : gone.0 ≡ kept ++ loose = gone.4 kept loose h in
    let some_there : gone.0 ≡ [] → ⊥ = λ e. some (sym are ∙ e) in
    subst (λ (bs : List ℕ). IsReopenedOn has usable config bs durable dropped checkpointed) are
    (opened_again has usable config seed new gone.0 gone.1 gone.2 found durable dropped checkpointed some_there gone.3 bucket told kind framing (gone.5 works kept loose h) keeps)

empty_or_not : (bytes : List ℕ) → (bytes ≡ []) ⊎ (bytes ≡ [] → ⊥)
empty_or_not [] = inl refl
empty_or_not (x ∷ xs) = inr (λ e. absurd cc)

-- a new bucket is at what a file is at that has no checkpoint and no entry
at_bare : {F : Type 0} (has : F → List ℕ → List ℕ → Type 0) (usable : F → Bool) (config : Configuration) (durable : Durable F) (base : Base) (entries : List Entry) → base ≡ fresh config → entries ≡ []
    → (at : IsAt has usable (empty config) [] [] durable) → at.base ≡ fresh config → (there : IsAt has usable (state_of base.config (acts_before base ++ acts_of entries)) entries [] durable) × (there.base ≡ base)
at_bare has usable config durable base entries bare none at based =
    subst (λ (d : Base). (there : IsAt has usable (state_of d.config (acts_before d ++ acts_of entries)) entries [] durable) × (there.base ≡ d)) (sym bare)
    (subst (λ (es : List Entry). (there : IsAt has usable (state_of config (acts_of es)) es [] durable) × (there.base ≡ fresh config)) (sym none) (at, based))

-- what was opened has read just the entries that were found, behind what is known to stand before them
pub has_read : {F : Type 0} (has : F → List ℕ → List ℕ → Type 0) (usable : F → Bool) (config : Configuration) (seed : ℕ) (old new : F) (found : Found) (durable : Durable F) (dropped : ℕ) (checkpointed : Bool) → IsGone has usable config seed old new found
    → durable.bucket ≡ found.bucket → dropped ≡ found.dropped → checkpointed ≡ found.checkpointed → durable.journal.framing ≡ found.framing → (usable old ≡ true → KeepsFound has usable new found durable)
    → (base : Base) × (entries : List Entry) × (base.config ≡ config) × (checkpointed ≡ false → base ≡ fresh config) × HasRead has usable base old entries durable dropped
unfolding opened_again
has_read {F} has usable config seed old new found durable dropped checkpointed gone bucket told kind framing keeps =
    let entries = gone.2 in
    let is = gone.3 in
    let knows = is.knows in
    let base = knows.0 in
    let b = knows.1 in
    let acts = acts_before base ++ acts_of entries in (
      base,
      entries,
      b.same,
      (λ plain. knows.2 (sym kind ∙ plain)),
      (
        subst (Represents (state_of base.config acts)) (sym bucket) (subst (λ (c : Configuration). Represents (state_of c acts) found.bucket) (sym b.same) (is.represents base b)),
        (λ works kept loose h.
            let same : gone.0 ≡ kept ++ loose = gone.4 kept loose h in
            let again = λ (some : gone.0 ≡ [] → ⊥). (opened_again has usable config seed new gone.0 gone.1 entries found durable dropped found.checkpointed some is bucket told refl framing (gone.5 works kept loose h) (keeps works)).each base b in
            let bare : gone.0 ≡ [] → base ≡ fresh base.config = λ none. no_checkpoint base (b.stands ∙ (is.new none).3) in
            let at : (at : IsAt has usable (state_of base.config acts) entries [] durable) × (at.base ≡ base) =
            elim (empty_or_not gone.0) [
              | inl none ↦
                  let n = (new_opened has usable config seed old new found durable dropped found.checkpointed gone works (from_empty has old kept loose (sym same ∙ none) h) bucket told refl framing (keeps works)).1 in
                  at_bare has usable config durable base entries (bare none ∙ ap fresh b.same) (is.new none).1 n.at n.based
              | inr some ↦ ((again some).at, (again some).based)
            ] in (
              at.0,
              at.1,
              (λ empty. ((is.new (same ∙ empty)).1, bare (same ∙ empty))),
              (λ some.
                  let read = is.read (λ e. some (sym same ∙ e)) in (
                    read.0,
                    subst (λ (bs : List ℕ). IsReopened has usable base bs entries read.0 durable dropped) same (again (λ e. some (sym same ∙ e))),
                  )),
            )),
      ),
    )
