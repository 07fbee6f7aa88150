-- What is read of the bytes of a file.
use Rattle.std.proofs.Common.{◌≡◌, ℕ, ◌+◌, ◌^◌, ◌<◌, List, ◌++◌, Option, Some, None, length, drop, refl, sym, ap, ◌∙◌, subst, append_assoc, length-append}
use Rattle.std.proofs.lemmas.List.{append_cancel_left, drop_at}
use Rattle.kv_frames.specs.Frames.{ArePayloads, frame, frames, offset_after, Splits}
use Rattle.kv_frames.proofs.Reading.{offset_is}
use Rattle.kv_model.specs.Acceptance.{IsLawful}
use Rattle.kv_model.specs.Acts.{Act}
use Rattle.kv_model.specs.Configuration.{Configuration, IsLegal}
use Rattle.kv_journal.specs.Checkpoints.{checkpoint_of, checkpoint_payloads}
use Rattle.kv_journal.specs.Header.{BeginsWith, beginning, configuration_payload}
use Rattle.kv_journal.specs.Damage.{ShowsDamage}
use Rattle.kv_journal.specs.Entries.{Entry, payloads_of, AreLawful}
use Rattle.kv_journal.proofs.Front.{configuration_fits, one_header}
use Rattle.kv_durable.specs.Bases.{Base, IsBaseOf, acts_before, base_payloads, fresh, opening, replaced_by}
use Rattle.kv_durable.specs.Files.{Reads, file_of}
use Rattle.kv_durable.proofs.Bytes.{base_frames, start, end_is, fresh_opening, header_first, one_seed, reads_frames, splits}
use Rattle.kv_durable.specs.Openings.{TellsBase}
use Rattle.kv_durable.specs.Starts.{IsStarted}
use Rattle.kv_durable.specs.declared.start.Started.{Started}
use Rattle.kv_durable.proofs.Crashing.{one_reading}
use Rattle.kv_durable.proofs.Starting.{based, over_bases}

pub front_is : (bytes : List ℕ) (seed : ℕ) (config : Configuration) (rest : List ℕ) → BeginsWith bytes seed (configuration_payload config) rest → bytes ≡ opening seed (fresh config) ++ rest
front_is bytes seed config rest b = b.stands ∙ sym (header_first seed (fresh config) rest)

-- where the entries begin
pub front_length : (seed : ℕ) (config : Configuration) (offset : ℕ) → offset ≡ length (beginning seed config) → offset ≡ length (opening seed (fresh config))
front_length seed config offset here = here ∙ ap length (sym (fresh_opening seed config))

pub front_within : (bytes : List ℕ) (seed : ℕ) (config : Configuration) (rest : List ℕ) (offset : ℕ) → BeginsWith bytes seed (configuration_payload config) rest → offset ≡ length (beginning seed config) → offset + length rest ≡ length bytes
front_within bytes seed config rest offset b here =
    ap (λ (n : ℕ). n + length rest) (front_length seed config offset here) ∙ sym (length-append (opening seed (fresh config)) rest) ∙ ap length (sym (front_is bytes seed config rest b))

pub behind_front : (bytes : List ℕ) (seed : ℕ) (config : Configuration) (rest : List ℕ) (offset : ℕ) (left : List ℕ) → BeginsWith bytes seed (configuration_payload config) rest → offset ≡ length (beginning seed config) → left ≡ drop offset bytes → left ≡ rest
behind_front bytes seed config rest offset left b here is =
    is ∙ ap (λ (xs : List ℕ). drop offset xs) (front_is bytes seed config rest b) ∙ drop_at (opening seed (fresh config)) rest offset (sym (front_length seed config offset here))

-- entries that are read behind no checkpoint
pub plain_from : (config : Configuration) (bytes : List ℕ) (seed offset : ℕ) (left front_rest : List ℕ) (other : ℕ) (entries : List Entry) (rest : List ℕ) → BeginsWith bytes seed (configuration_payload config) front_rest
    → offset ≡ length (beginning seed config) → left ≡ drop offset bytes → Reads (fresh config) bytes other entries rest → Splits seed offset left (payloads_of entries) rest
plain_from config bytes seed offset left front_rest other entries rest b here is read =
    let base = fresh config in
    let same = behind_front bytes seed config front_rest offset left b here is in
    let front = subst (λ (xs : List ℕ). Reads base xs other entries rest) (front_is bytes seed config front_rest b) read in
    let own = subst (λ (n : ℕ). Reads base (opening seed base ++ front_rest) n entries rest) (one_seed seed other base front_rest entries rest b.seed_fits front) front in
    subst (λ (xs : List ℕ). Splits seed offset xs (payloads_of entries) rest) (sym same)
    (subst (λ (n : ℕ). Splits seed n front_rest (payloads_of entries) rest) (sym (front_length seed config offset here)) (splits seed base entries front_rest rest own))

-- ---- what stands before the entries

-- header, configuration, and the frames of these payloads
abbrev pub front : ℕ → Configuration → List (List ℕ) → List ℕ
front seed config payloads = beginning seed config ++ frames seed (length (beginning seed config)) payloads

pub opening_is : (seed : ℕ) (config : Configuration) (payloads : List (List ℕ)) (base : Base) → IsBaseOf config payloads base → opening seed base ≡ front seed config payloads
opening_is seed config payloads base is =
    ap (λ (c : Configuration). front seed c (base_payloads base)) is.same ∙ ap (λ (ps : List (List ℕ)). front seed config ps) is.stands

-- where the entries begin, and what stands there
pub record Stands (config : Configuration) (bytes : List ℕ) (seed : ℕ) (payloads : List (List ℕ)) (offset : ℕ) (left : List ℕ) : Type 0 where
  pub fits : seed < 2 ^ 64
  pub whole : bytes ≡ front seed config payloads ++ left
  pub here : offset ≡ length (front seed config payloads)
  pub fit : ArePayloads payloads

module _ (config : Configuration) (bytes : List ℕ) (seed offset : ℕ) (first front_rest : List ℕ) (begins : BeginsWith bytes seed (configuration_payload config) front_rest) (here : offset ≡ length (beginning seed config)) (behind : first ≡ drop offset bytes) where
  first_is : first ≡ front_rest
  first_is = behind_front bytes seed config front_rest offset first begins here behind

  pub first_within : offset + length first ≡ length bytes
  first_within = ap (λ (n : ℕ). offset + n) (ap length first_is) ∙ front_within bytes seed config front_rest offset begins here

  -- a base whose opening the bytes begin with has this seed, and the frames of its checkpoint stand there
  behind_base : (replaced : Option (List Act)) (other : ℕ) (more : List ℕ) → other < 2 ^ 64 → bytes ≡ opening other (based config replaced) ++ more
      → (other ≡ seed) × (first ≡ base_frames seed (based config replaced) ++ more)
  behind_base replaced other more fits whole =
      let base = based config replaced in
      let parts = one_header seed other (frame seed 17 (configuration_payload config) ++ front_rest) (frame other 17 (configuration_payload config) ++ (base_frames other base ++ more)) begins.seed_fits fits
      (sym begins.stands ∙ whole ∙ header_first other base more) in
      let own = subst (λ (n : ℕ). frame seed 17 (configuration_payload config) ++ front_rest ≡ frame n 17 (configuration_payload config) ++ (base_frames n base ++ more)) (sym parts.0) parts.1 in
      (sym parts.0, first_is ∙ append_cancel_left (frame seed 17 (configuration_payload config)) front_rest (base_frames seed base ++ more) own)

  module _ (payloads : List (List ℕ)) (rest : List ℕ) (started : Started) (is : IsStarted config seed offset first payloads rest started) where
    all : bytes ≡ front seed config payloads ++ rest
    all =
        front_is bytes seed config front_rest begins
        ∙ ap (λ (xs : List ℕ). xs ++ front_rest) (fresh_opening seed config)
        ∙ ap (λ (xs : List ℕ). beginning seed config ++ xs) (sym first_is ∙ is.whole)
        ∙ ap (λ (n : ℕ). beginning seed config ++ (frames seed n payloads ++ rest)) here
        ∙ sym (append_assoc (beginning seed config) (frames seed (length (beginning seed config)) payloads) rest)

    there : started.offset ≡ length (front seed config payloads)
    there =
        is.offset ∙ offset_is seed offset payloads ∙ ap (λ (n : ℕ). n + length (frames seed n payloads)) here
        ∙ sym (length-append (beginning seed config) (frames seed (length (beginning seed config)) payloads))

    pub within_front : started.offset + length rest ≡ length bytes
    within_front = ap (λ (n : ℕ). n + length rest) there ∙ sym (length-append (front seed config payloads) rest) ∙ ap length (sym all)

    pub stands : (left : List ℕ) → left ≡ drop started.offset bytes → Stands config bytes seed payloads started.offset left
    stands left is_left =
        let same : left ≡ rest = is_left ∙ ap (λ (xs : List ℕ). drop started.offset xs) all ∙ drop_at (front seed config payloads) rest started.offset (sym there) in
        record {
          fits = begins.seed_fits;
          whole = all ∙ ap (λ (xs : List ℕ). front seed config payloads ++ xs) (sym same);
          here = there;
          fit = is.fit;
        }

    of_front : (acts : List Act) (other : ℕ) (more : List ℕ) → other < 2 ^ 64 → IsLawful config acts → ArePayloads (base_payloads (replaced_by config acts)) → bytes ≡ opening other (replaced_by config acts) ++ more
        → IsBaseOf config payloads (replaced_by config acts)
    of_front acts other more fits lawful each whole =
        let own = (behind_base (Some acts) other more fits whole).1 in
        record {
          same = refl;
          lawful = lawful;
          stands = is.front acts more lawful each (own ∙ ap (λ (n : ℕ). frames seed n (checkpoint_payloads (checkpoint_of config acts)) ++ more) (sym here));
        }

    of_read : (replaced : Option (List Act)) (other : ℕ) (entries : List Entry) (left : List ℕ) → Reads (based config replaced) bytes other entries left → IsBaseOf config payloads (based config replaced)
    of_read None other entries left read = record {
      same = refl;
      lawful = tt;
      stands = sym (is.none entries left (plain_from config bytes seed offset first front_rest other entries left begins here behind read));
    }
    of_read (Some acts) other entries left read =
        let base = replaced_by config acts in
        of_front acts other (frames other (start other base) (payloads_of entries) ++ left) read.seed_fits read.replaced read.first
        (read.whole ∙ append_assoc (opening other base) (frames other (start other base) (payloads_of entries)) left)

    pub tells : TellsBase config bytes payloads started.checkpointed
    tells = record {
      plain = is.plain;
      some = is.some;
      read = λ base other entries left same read.
          over_bases config (λ (d : Base). Reads d bytes other entries left → IsBaseOf config payloads d) (λ replaced. of_read replaced other entries left) base same read;
      front = λ acts other more. of_front acts other more;
    }

  -- where nothing can be told of what stands there, no base is read
  pub no_start : ((acts : List Act) (rest : List ℕ) → IsLawful config acts → ArePayloads (checkpoint_payloads (checkpoint_of config acts)) → first ≡ frames seed offset (checkpoint_payloads (checkpoint_of config acts)) ++ rest → ⊥)
      → ((entries : List Entry) (rest : List ℕ) → Splits seed offset first (payloads_of entries) rest → ⊥)
      → (base : Base) (other : ℕ) (entries : List Entry) (left : List ℕ) → base.config ≡ config → Reads base bytes other entries left → ⊥
  no_start no_checkpoint no_entries base other entries left same read =
      over_bases config (λ (d : Base). Reads d bytes other entries left → ⊥) by base same read
    where
      by : (replaced : Option (List Act)) → Reads (based config replaced) bytes other entries left → ⊥
      by None read = no_entries entries left (plain_from config bytes seed offset first front_rest other entries left begins here behind read)
      by (Some acts) read =
          let base = replaced_by config acts in
          let more = frames other (start other base) (payloads_of entries) ++ left in
          let whole = read.whole ∙ append_assoc (opening other base) (frames other (start other base) (payloads_of entries)) left in
          let at_first = (behind_base (Some acts) other more read.seed_fits whole).1 in
          no_checkpoint acts more read.replaced read.first (at_first ∙ ap (λ (n : ℕ). frames seed n (checkpoint_payloads (checkpoint_of config acts)) ++ more) (sym here))

-- ---- the entries

module _ (config : Configuration) (bytes : List ℕ) (seed : ℕ) (payloads : List (List ℕ)) (offset : ℕ) (left : List ℕ) (s : Stands config bytes seed payloads offset left) where
  -- where they end, whatever they stand behind
  pub end_there : (entries : List Entry) (rest : List ℕ) (end : ℕ) → Splits seed offset left (payloads_of entries) rest → end ≡ offset_after offset (payloads_of entries) → (end + length rest ≡ length bytes) × (drop end bytes ≡ rest)
  end_there entries rest end splits is =
      let more = frames seed offset (payloads_of entries) in
      let whole : bytes ≡ (front seed config payloads ++ more) ++ rest =
      s.whole ∙ ap (λ (xs : List ℕ). front seed config payloads ++ xs) splits.whole ∙ sym (append_assoc (front seed config payloads) more rest) in
      let there : end ≡ length (front seed config payloads ++ more) =
      is ∙ offset_is seed offset (payloads_of entries) ∙ ap (λ (n : ℕ). n + length more) s.here ∙ sym (length-append (front seed config payloads) more) in (
        ap (λ (n : ℕ). n + length rest) there ∙ sym (length-append (front seed config payloads ++ more) rest) ∙ ap length (sym whole),
        ap (λ (xs : List ℕ). drop end xs) whole ∙ drop_at (front seed config payloads ++ more) rest end (sym there),
      )

  module _ (base : Base) (is : IsBaseOf config payloads base) where
    opens : opening seed base ≡ front seed config payloads
    opens = opening_is seed config payloads base is

    starts : offset ≡ start seed base
    starts = s.here ∙ ap length (sym opens)

    stands_behind : bytes ≡ opening seed base ++ left
    stands_behind = s.whole ∙ ap (λ (xs : List ℕ). xs ++ left) (sym opens)

    pub reads : (entries : List Entry) (rest : List ℕ) → AreLawful base.config (acts_before base) entries → Splits seed offset left (payloads_of entries) rest → Reads base bytes seed entries rest
    reads entries rest lawful split =
        subst (λ (xs : List ℕ). Reads base xs seed entries rest) (sym stands_behind)
        (reads_frames seed base entries left rest s.fits (subst ArePayloads (sym is.stands) s.fit) is.lawful lawful (subst (λ (n : ℕ). Splits seed n left (payloads_of entries) rest) starts split))

    pub reads_from : (other : ℕ) (entries : List Entry) (rest : List ℕ) → Reads base bytes other entries rest → Splits seed offset left (payloads_of entries) rest
    reads_from other entries rest read =
        let there = subst (λ (xs : List ℕ). Reads base xs other entries rest) stands_behind read in
        let own = subst (λ (n : ℕ). Reads base (opening seed base ++ left) n entries rest) (one_seed seed other base left entries rest s.fits there) there in
        subst (λ (n : ℕ). Splits seed n left (payloads_of entries) rest) (sym starts) (splits seed base entries left rest own)

    pub end_of_base : (entries : List Entry) (end : ℕ) → end ≡ offset_after offset (payloads_of entries) → end ≡ length (file_of seed base entries)
    end_of_base entries end there = there ∙ ap (λ (n : ℕ). offset_after n (payloads_of entries)) starts ∙ end_is seed base entries

-- what one reading shows, each does
pub damage_shows : (base : Base) (bytes : List ℕ) (seed other : ℕ) (xs ys : List Entry) (rest left : List ℕ) → IsLegal base.config → Reads base bytes seed xs rest → Reads base bytes other ys left
    → ShowsDamage seed (length (file_of seed base xs)) rest → ShowsDamage other (length (file_of other base ys)) left
damage_shows base bytes seed other xs ys rest left legal one two shows =
    let same = one_reading base bytes seed other xs ys rest left legal one two in
    subst (λ (w : List ℕ). ShowsDamage other (length (file_of other base ys)) w) same.2
    (subst (λ (es : List Entry). ShowsDamage other (length (file_of other base es)) rest) same.1
    (subst (λ (n : ℕ). ShowsDamage n (length (file_of n base xs)) rest) same.0 shows))

-- what is read begins with a header and the frame of the configuration
pub read_begins : (base : Base) (bytes : List ℕ) (seed : ℕ) (entries : List Entry) (rest : List ℕ) → IsLegal base.config → Reads base bytes seed entries rest
    → BeginsWith bytes seed (configuration_payload base.config) (base_frames seed base ++ (frames seed (start seed base) (payloads_of entries) ++ rest))
read_begins base bytes seed entries rest legal read =
    let there = frames seed (start seed base) (payloads_of entries) in
    record {
      seed_fits = read.seed_fits;
      is_payload = configuration_fits base.config (configuration_payload base.config) refl legal;
      stands = read.whole ∙ append_assoc (opening seed base) there rest ∙ header_first seed base (there ++ rest);
    }
