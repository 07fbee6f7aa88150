-- Lives of a durable bucket.
use Rattle.std.proofs.Common.{◌≡◌, ◌⊎◌, ℕ, ◌^◌, ◌<◌, Bool, true, false, List, [], ◌∷◌, ◌++◌, length, refl, sym, ap, ◌∙◌, subst, inl, inr, arith, append_assoc, append-nil}
use Rattle.kv_file.specs.File.{MayLeave}
use Rattle.kv_frames.specs.Frames.{ArePayloads, frame}
use Rattle.kv_frames.proofs.Fronts.{frame_parts, nothing_whole}
use Rattle.kv_model.specs.Acts.{Act, IsPrefix}
use Rattle.kv_model.specs.Configuration.{Configuration, IsLegal}
use Rattle.kv_model.specs.State.{State, empty}
use Rattle.kv_journal.specs.Damage.{ShowsDamage, told_end}
use Rattle.kv_journal.specs.Entries.{AreLawful, Entry, acts_of, payloads_of}
use Rattle.kv_durable.specs.Bases.{Base, acts_before, fresh, opening, replaced_by}
use Rattle.kv_durable.specs.Durables.{IsAt, IsRecorded, state_of}
use Rattle.kv_durable.specs.Files.{HasForgery, IsBetween, Reads, file_of}
use Rattle.kv_durable.specs.Lives.{ComesBack, Follows, GoesOn, Lives, lived}
use Rattle.kv_durable.specs.Openings.{IsNew, IsReopened, IsReopenedOn}
use Rattle.kv_single.specs.Held.{Represents}
use Rattle.kv_journal.specs.Header.{BeginsWith, beginning, configuration_payload}
use Rattle.kv_journal.specs.Records.{Content}
use Rattle.kv_journal.proofs.Front.{configuration_fits, one_header}
use Rattle.kv_journal.proofs.Going.{acts_of-append}
use Rattle.kv_durable.specs.Journals.{Keeps, told_next}
use Rattle.kv_durable.proofs.Recording.{added_kept, all_added}
use Rattle.kv_durable.specs.declared.durable.Durable.{Durable}
use Rattle.kv_durable.proofs.Adding.{lawful_append}
use Rattle.kv_durable.proofs.Bytes.{fresh_opening}
use Rattle.kv_durable.proofs.Crashing.{after_a_crash, beginning_acts, one_reading}

-- what a new file begins with is that of its own bucket
pub own_beginning : (config : Configuration) (seed other : ℕ) (payload rest : List ℕ) → IsLegal config → seed < 2 ^ 64 → BeginsWith (beginning seed config) other payload rest → payload ≡ configuration_payload config
own_beginning config seed other payload rest legal fits begins =
    let own = configuration_payload config in
    let parts = one_header seed other (frame seed 17 own) (frame other 17 payload ++ rest) fits begins.seed_fits begins.stands in
    let same : frame seed 17 payload ++ rest ≡ frame seed 17 own ++ [] =
    subst (λ (n : ℕ). frame n 17 payload ++ rest ≡ frame seed 17 own ++ []) (sym parts.0) (sym parts.1 ∙ sym (append-nil (frame seed 17 own))) in
    (frame_parts seed 17 payload rest own [] begins.is_payload.1 (configuration_fits config own refl legal).1 same).0

pub prefix_on : (xs ys zs : List Entry) → IsPrefix xs ys → IsPrefix ys zs → IsPrefix xs zs
prefix_on xs ys zs one two = (one.0 ++ two.0, sym (append_assoc xs one.0 two.0) ∙ ap (λ (ws : List Entry). ws ++ two.0) one.1 ∙ two.1)

front_payloads : (xs ys : List Entry) → ArePayloads (payloads_of (xs ++ ys)) → ArePayloads (payloads_of xs)
front_payloads [] ys h = tt
front_payloads (x ∷ xs) ys h = (h.0, front_payloads xs ys h.1)

pub acts_on : (xs ys zs : List Act) → IsPrefix xs ys → IsPrefix ys zs → IsPrefix xs zs
acts_on xs ys zs one two = (one.0 ++ two.0, sym (append_assoc xs one.0 two.0) ∙ ap (λ (ws : List Act). ws ++ two.0) one.1 ∙ two.1)

-- the acts of more entries behind the same acts
pub more_acts : (before : List Act) (xs ys : List Entry) → IsPrefix xs ys → IsPrefix (before ++ acts_of xs) (before ++ acts_of ys)
more_acts before xs ys p = (
  acts_of p.0,
  append_assoc before (acts_of xs) (acts_of p.0) ∙ ap (λ (as' : List Act). before ++ as') (sym (acts_of-append xs p.0) ∙ ap acts_of p.1),
)

prefix_before : (before : List Act) (xs ys : List Act) → IsPrefix xs ys → IsPrefix (before ++ xs) (before ++ ys)
prefix_before before xs ys p = (p.0, append_assoc before xs p.0 ∙ ap (λ (as' : List Act). before ++ as') p.1)

-- what goes on from the first goes on
pub follows_on : (a b c : Base) (xs xl ys yl zs zl : List Entry) → Follows a xs xl b ys yl → Follows b ys yl c zs zl → Follows a xs xl c zs zl
follows_on a b c xs xl ys yl zs zl one two =
    elim one [
      | inl on ↦ elim two [
        | inl more ↦ inl (more.0 ∙ on.0, prefix_on xs ys zs on.1 more.1, prefix_on (xs ++ xl) (ys ++ yl) (zs ++ zl) on.2 more.2)
        | inr late ↦
            let all = more_acts (acts_before a) (xs ++ xl) (ys ++ yl) on.2 in
            let here = subst (λ (d : Base). IsPrefix (acts_before a ++ acts_of (xs ++ xl)) (acts_before d ++ acts_of (ys ++ yl))) (sym on.0) all in
            inr (acts_on (acts_before a ++ acts_of (xs ++ xl)) (acts_before b ++ acts_of (ys ++ yl)) (acts_before c) here late)
      ]
      | inr late ↦ inr (elim two [
        | inl more ↦ subst (λ (d : Base). IsPrefix (acts_before a ++ acts_of (xs ++ xl)) (acts_before d)) (sym more.0) late
        | inr later ↦ acts_on (acts_before a ++ acts_of (xs ++ xl)) (acts_before b) (acts_before c) late (acts_on (acts_before b) (acts_before b ++ acts_of (ys ++ yl)) (acts_before c) (acts_of (ys ++ yl), refl) later)
      ])
    ]

module _ {F : Type 0} (has : F → List ℕ → List ℕ → Type 0) (usable : F → Bool) where
  pub goes_on : (calls : List (State → State)) (first last : Durable F) (state : State) (kept loose : List Entry) → Lives has usable calls first last → (at : IsAt has usable state kept loose first)
      → (k : List Entry) × (l : List Entry) × (next : IsAt has usable (lived calls state) k l last) × Follows at.base kept loose next.base k l
  goes_on [] first last state kept loose lives at = still last lives
    where
      still : (d : Durable F) → d ≡ first → (k : List Entry) × (l : List Entry) × (next : IsAt has usable state k l d) × Follows at.base kept loose next.base k l
      still d is = (
        kept,
        loose,
        record { base = at.base; config = at.config; represents = subst (λ (e : Durable F). Represents state e.bucket) (sym is) at.represents; acts = at.acts; keeps = subst (λ (e : Durable F). Keeps has usable at.base kept loose e.journal) (sym is) at.keeps },
        inl (refl, ([], append-nil kept), ([], append-nil (kept ++ loose))),
      )
  goes_on (later ∷ more) first last state kept loose lives at =
      let one = lives.1 state kept loose at in
      let rest = goes_on more lives.0 last (later state) one.0 one.1 lives.2 one.2 in
      (rest.0, rest.1, rest.2, follows_on at.base one.2.base rest.2.base kept loose one.0 one.1 rest.0 rest.1 one.3 rest.3)

  -- what is at a state is at an equal one
  pub at_state : (s t : State) (kept loose : List Entry) (durable : Durable F) → s ≡ t → (at : IsAt has usable s kept loose durable) → (same : IsAt has usable t kept loose durable) × (same.base ≡ at.base)
  at_state s t kept loose durable is at = (
    record {
      base = at.base;
      config = at.config ∙ ap (λ (x : State). x.config) is;
      represents = subst (λ (x : State). Represents x durable.bucket) is at.represents;
      acts = sym (ap (λ (x : State). x.acts) is) ∙ at.acts;
      keeps = at.keeps;
    },
    refl,
  )

  pub second_life : (state : State) (kept loose told entries : List Entry) (first second : Durable F) (dropped : ℕ) (disk more left rest : List ℕ) (at : IsAt has usable state kept loose first) → AreLawful state.config state.acts told
      → IsBetween first.journal.framing.seed at.base kept (loose ++ told) disk more → MayLeave disk more left → IsReopened has usable at.base left entries rest second dropped
      → ComesBack at.base kept (loose ++ told) (acts_before at.base ++ acts_of entries) second ⊎ HasForgery first.journal.framing.seed at.base kept (loose ++ told) left
  second_life state kept loose told entries first second dropped disk more left rest at lawful between may again =
      let base = at.base in
      let before = acts_before base in
      let told_here = subst (λ (c : Configuration). AreLawful c (before ++ acts_of (kept ++ loose)) told) (sym at.config) (subst (λ (acts : List Act). AreLawful state.config acts told) at.acts lawful) in
      let behind = lawful_append base.config before (kept ++ loose) told at.keeps.lawful told_here in
      let all = subst (AreLawful base.config before) (append_assoc kept loose told) behind in
      let legal = again.at.represents.version.legal in
      elim (after_a_crash first.journal.framing.seed second.journal.framing.seed base kept (loose ++ told) entries disk more left rest (subst IsLegal again.at.represents.config legal) at.keeps.seed_fits all
      (front_payloads kept loose at.keeps.payloads) between may again.reads) [
        | inl found ↦ let acts = beginning_acts kept (loose ++ told) entries found in inl (record {
          represents = again.at.represents;
          all_kept = prefix_before before (acts_of kept) (acts_of entries) acts.0;
          no_other = prefix_before before (acts_of entries) (acts_of (kept ++ (loose ++ told))) acts.1;
          whole = (found.0, ap (λ (es : List Entry). before ++ acts_of es) found.2);
        })
        | inr forged ↦ inr forged
      ]

  pub life_and_next : (config : Configuration) (seed : ℕ) (calls : List (State → State)) (new last second : Durable F) (none dropped : ℕ) → IsNew has usable config seed new none → Lives has usable calls new last
      → (kept : List Entry) × (loose : List Entry) × (at : IsAt has usable (lived calls (empty config)) kept loose last)
      × ((told entries : List Entry) (disk more left rest : List ℕ) → AreLawful (lived calls (empty config)).config (lived calls (empty config)).acts told
      → IsBetween last.journal.framing.seed at.base kept (loose ++ told) disk more → MayLeave disk more left → IsReopened has usable at.base left entries rest second dropped
      → ComesBack at.base kept (loose ++ told) (acts_before at.base ++ acts_of entries) second ⊎ HasForgery last.journal.framing.seed at.base kept (loose ++ told) left)
  life_and_next config seed calls new last second none dropped is lives =
      let there = goes_on calls new last (empty config) [] [] lives is.at in
      (there.0, there.1, there.2, λ told entries disk more left rest. second_life (lived calls (empty config)) there.0 there.1 told entries last second dropped disk more left rest there.2)

  -- ---- what goes on

  pub recorded_goes_on : (later : State → State) (told : State → List Content) (old new : Durable F) → IsRecorded has usable later told old new → GoesOn has usable later old new
  recorded_goes_on later told old new recorded = λ state kept loose at.
      let there = recorded state kept loose at in
      let entries = told_next old.journal (told state) in
      (there.0, there.1, there.4, inl (there.5, added_kept kept loose entries there.0 there.1 there.2, (entries, sym (all_added kept loose entries there.0 there.1 there.2))))

  pub synced_goes_on : (old new : Durable F) → ((state : State) (kept loose : List Entry) (at : IsAt has usable state kept loose old) → (next : IsAt has usable state (kept ++ loose) [] new) × (next.base ≡ at.base)) → GoesOn has usable (λ state. state) old new
  synced_goes_on old new on = λ state kept loose at.
      let there = on state kept loose at in
      (kept ++ loose, [], there.0, inl (there.1, (loose, refl), ([], refl)))

  -- all acts stand in a checkpoint then
  pub replaced_goes_on : (old new : Durable F) → ((state : State) (kept loose : List Entry) → IsAt has usable state kept loose old → (next : IsAt has usable state [] [] new) × (next.base ≡ replaced_by state.config state.acts)) → GoesOn has usable (λ state. state) old new
  replaced_goes_on old new on = λ state kept loose at.
      let there = on state kept loose at in
      ([], [], there.0, inr ([], append-nil (acts_before at.base ++ acts_of (kept ++ loose)) ∙ sym at.acts ∙ sym (ap acts_before there.1)))

  pub not_replaced_goes_on : (old new : Durable F) → ((state : State) (kept loose : List Entry) (at : IsAt has usable state kept loose old) → (next : IsAt has usable state kept loose new) × (next.base ≡ at.base)) → GoesOn has usable (λ state. state) old new
  not_replaced_goes_on old new on = λ state kept loose at.
      let there = on state kept loose at in
      (kept, loose, there.0, inl (there.1, ([], append-nil kept), ([], append-nil (kept ++ loose))))

  -- a file that ends where its entries do is read as these
  whole_again : (base : Base) (seed : ℕ) (kept entries : List Entry) (second : Durable F) (dropped : ℕ) (rest : List ℕ) → seed < 2 ^ 64 → AreLawful base.config (acts_before base) kept → ArePayloads (payloads_of kept)
      → IsReopened has usable base (file_of seed base kept) entries rest second dropped → Represents (state_of base.config (acts_before base ++ acts_of kept)) second.bucket × (entries ≡ kept) × (dropped ≡ 0)
  whole_again base seed kept entries second dropped rest fits lawful each again =
      let read : Reads base (file_of seed base kept) seed kept [] = record {
        seed_fits = fits;
        whole = sym (append-nil (file_of seed base kept));
        first = again.reads.first;
        each = each;
        replaced = again.reads.replaced;
        lawful = lawful;
        ended = nothing_whole seed (length (file_of seed base kept));
      } in
      let legal = subst IsLegal again.at.represents.config again.at.represents.version.legal in
      let same = one_reading base (file_of seed base kept) seed second.journal.framing.seed kept entries [] rest legal read again.reads in (
        subst (λ (es : List Entry). Represents (state_of base.config (acts_before base ++ acts_of es)) second.bucket) (sym same.1) again.at.represents,
        sym same.1,
        again.told ∙ ap length (sym same.2),
      )

  pub new_file_again : (state : State) (seed : ℕ) (entries : List Entry) (second : Durable F) (dropped : ℕ) (rest : List ℕ) → seed < 2 ^ 64
      → IsReopened has usable (replaced_by state.config state.acts) (file_of seed (replaced_by state.config state.acts) []) entries rest second dropped
      → Represents (state_of state.config state.acts) second.bucket × (entries ≡ []) × (dropped ≡ 0)
  new_file_again state seed entries second dropped rest fits again =
      let there = whole_again (replaced_by state.config state.acts) seed [] entries second dropped rest fits tt tt again in
      (subst (λ (acts : List Act). Represents (state_of state.config acts) second.bucket) (append-nil state.acts) there.0, there.1, there.2)

  pub old_file_again : (state : State) (kept entries : List Entry) (first second : Durable F) (dropped : ℕ) (rest : List ℕ) (at : IsAt has usable state kept [] first)
      → IsReopened has usable at.base (file_of first.journal.framing.seed at.base kept) entries rest second dropped → Represents (state_of state.config state.acts) second.bucket × (entries ≡ kept) × (dropped ≡ 0)
  old_file_again state kept entries first second dropped rest at again =
      let base = at.base in
      let lawful = subst (AreLawful base.config (acts_before base)) (append-nil kept) at.keeps.lawful in
      let each = subst (λ (es : List Entry). ArePayloads (payloads_of es)) (append-nil kept) at.keeps.payloads in
      let there = whole_again base first.journal.framing.seed kept entries second dropped rest at.keeps.seed_fits lawful each again in
      let acts : acts_before base ++ acts_of kept ≡ state.acts = ap (λ (es : List Entry). acts_before base ++ acts_of es) (sym (append-nil kept)) ∙ sym at.acts in (
        subst (λ (as' : List Act). Represents (state_of state.config as') second.bucket) acts (subst (λ (c : Configuration). Represents (state_of c (acts_before base ++ acts_of kept)) second.bucket) at.config there.0),
        there.1,
        there.2,
      )

  -- where a file ends, nothing shows damage
  nothing_shown : (seed at : ℕ) → ShowsDamage seed at [] → ⊥
  nothing_shown seed at shown =
      elim shown.3.shown [
        | inl near ↦ none shown.0 near.1.within
        | inr next ↦ none (told_end []) next.1.within
      ]
    where
      none : (n : ℕ) → n < 0 → ⊥
      none n h = absurd (omega (arith, h))

  -- behind the last entry of a file that ends there, nothing shows damage
  pub shows_none : (state : State) (kept : List Entry) (first : Durable F) (at : IsAt has usable state kept [] first)
      → ((base : Base) (other : ℕ) (entries : List Entry) (rest : List ℕ) → base.config ≡ at.base.config → Reads base (file_of first.journal.framing.seed at.base kept) other entries rest
      → ShowsDamage other (length (file_of other base entries)) rest) → ⊥
  shows_none state kept first at damaged =
      let base = at.base in
      let seed = first.journal.framing.seed in
      nothing_shown seed (length (file_of seed base kept)) (damaged base seed kept [] refl record {
        seed_fits = at.keeps.seed_fits;
        whole = sym (append-nil (file_of seed base kept));
        first = at.keeps.first;
        each = subst (λ (es : List Entry). ArePayloads (payloads_of es)) (append-nil kept) at.keeps.payloads;
        replaced = at.keeps.replaced;
        lawful = subst (AreLawful base.config (acts_before base)) (append-nil kept) at.keeps.lawful;
        ended = nothing_whole seed (length (file_of seed base kept));
      })

  -- what a new file begins with is read as a file with no entry
  new_file : (config : Configuration) (seed : ℕ) → file_of seed (fresh config) [] ≡ beginning seed config
  new_file config seed = append-nil (opening seed (fresh config)) ∙ fresh_opening seed config

  begins_new : (config : Configuration) (seed : ℕ) → seed < 2 ^ 64 → Reads (fresh config) (beginning seed config) seed [] []
  begins_new config seed fits = record {
    seed_fits = fits;
    whole = sym (append-nil (file_of seed (fresh config) []) ∙ new_file config seed);
    first = tt;
    each = tt;
    replaced = tt;
    lawful = tt;
    ended = nothing_whole seed (length (file_of seed (fresh config) []));
  }

  pub new_again : (config : Configuration) (seed : ℕ) (second : Durable F) (dropped : ℕ) (checkpointed : Bool) → IsLegal config → seed < 2 ^ 64
      → IsReopenedOn has usable config (beginning seed config) second dropped checkpointed → Represents (empty config) second.bucket × (dropped ≡ 0) × (checkpointed ≡ false)
  new_again config seed second dropped checkpointed legal fits again =
      let is = again.tells.read (fresh config) seed [] [] refl (begins_new config seed fits) in
      let there = again.each (fresh config) is in
      let whole = subst (λ (w : List ℕ). IsReopened has usable (fresh config) w again.entries again.rest second dropped) (sym (new_file config seed)) there in
      let found = whole_again (fresh config) seed [] again.entries second dropped again.rest fits tt tt whole in
      (found.0, found.2, told_fresh checkpointed (λ e. again.tells.some e (sym is.stands)))
    where
      told_fresh : (b : Bool) → (b ≡ true → ⊥) → b ≡ false
      told_fresh true never = absurd (never refl)
      told_fresh false never = refl

  pub new_shows_none : (config : Configuration) (seed : ℕ) → seed < 2 ^ 64
      → ((base : Base) (other : ℕ) (entries : List Entry) (rest : List ℕ) → base.config ≡ config → Reads base (beginning seed config) other entries rest → ShowsDamage other (length (file_of other base entries)) rest) → ⊥
  new_shows_none config seed fits damaged = nothing_shown seed (length (file_of seed (fresh config) [])) (damaged (fresh config) seed [] [] refl (begins_new config seed fits))

  pub watched_goes_on : (later : State → State) (old new : Durable F) → ((state : State) → Represents state old.bucket → Represents (later state) new.bucket × ((later state).acts ≡ state.acts) × ((later state).config ≡ state.config))
      → new.journal ≡ old.journal → GoesOn has usable later old new
  watched_goes_on later old new on same = λ state kept loose at.
      let there = on state at.represents in (
        kept,
        loose,
        record {
          base = at.base;
          config = at.config ∙ sym there.2;
          represents = there.0;
          acts = there.1 ∙ at.acts;
          keeps = subst (Keeps has usable at.base kept loose) (sym same) at.keeps;
        },
        inl (refl, ([], append-nil kept), ([], append-nil (kept ++ loose))),
      )
