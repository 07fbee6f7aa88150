-- Of what was told at once all comes back, or nothing.
use Rattle.std.proofs.Common.{◌≡◌, ◌⊎◌, ℕ, Bool, List, [], ◌∷◌, ◌++◌, Ok, take, drop, refl, sym, ap, ◌∙◌, subst, inl, inr, append_assoc, append-nil}
use Rattle.std.specs.Prelude.{map}
use Rattle.std.proofs.lemmas.List.{take-append-drop}
use Rattle.kv_file.specs.File.{MayLeave}
use Rattle.kv_model.specs.Acts.{Act, IsPrefix, Wrote, Write}
use Rattle.kv_model.specs.Batches.{accept_all, after_all, after_batch}
use Rattle.kv_model.specs.Requests.{asked}
use Rattle.kv_model.specs.State.{State}
use Rattle.kv_model.specs.declared.request.Request.{Request}
use Rattle.kv_journal.specs.Entries.{AreLawful, Entry, acts_in, acts_of}
use Rattle.kv_journal.specs.Records.{Content, did_all}
use Rattle.kv_journal.proofs.Going.{acts_of-push}
use Rattle.kv_durable.specs.Bases.{Base, acts_before}
use Rattle.kv_durable.specs.Durables.{IsAt, IsRecorded}
use Rattle.kv_durable.specs.Files.{HasForgery, IsBetween}
use Rattle.kv_durable.specs.Journals.{loose_ahead, told_next}
use Rattle.kv_durable.specs.Lives.{IsAllOrNone, Lives, lived}
use Rattle.kv_durable.specs.Openings.{IsReopened}
use Rattle.kv_durable.specs.declared.durable.Durable.{Durable}
use Rattle.kv_durable.proofs.Batched.{later, told_by, told_is}
use Rattle.kv_durable.proofs.Living.{acts_on, at_state, goes_on, more_acts, prefix_on, second_life}
use Rattle.kv_durable.proofs.Recording.{all_added}

-- of two beginnings of one list, where one ends behind an entry, the other one ends before it or has it
before_or_behind : (xs before : List Entry) (e : Entry) (rest behind : List Entry) → xs ++ rest ≡ before ++ e ∷ behind → IsPrefix xs before ⊎ IsPrefix (before ++ e ∷ []) xs
before_or_behind [] before e rest behind is = inl (before, refl)
before_or_behind (x ∷ xs) [] e rest behind is = let same : e ≡ x = cc in inr (xs, ap (λ (z : Entry). z ∷ xs) same)
before_or_behind (x ∷ xs) (b ∷ bs) e rest behind is =
    let same : x ≡ b = cc in
    let more : xs ++ rest ≡ bs ++ e ∷ behind = cc in
    elim (before_or_behind xs bs e rest behind more) [
      | inl short ↦ inl (short.0, ap (λ (zs : List Entry). x ∷ zs) short.1 ∙ ap (λ (z : Entry). z ∷ bs) same)
      | inr long ↦ inr (long.0, ap (λ (z : Entry). z ∷ ((bs ++ e ∷ []) ++ long.0)) (sym same) ∙ ap (λ (zs : List Entry). x ∷ zs) long.1)
    ]

-- what comes back has the acts of an entry, or ends before it
entry_whole : (first : List Act) (kept maybe before : List Entry) (e : Entry) (acts : List Act) (k : ℕ) → IsPrefix (before ++ e ∷ []) (kept ++ maybe) → acts ≡ first ++ acts_of (kept ++ take k maybe)
    → IsAllOrNone (first ++ acts_of before) ((first ++ acts_of before) ++ acts_in e.content) acts
entry_whole first kept maybe before e acts k p is =
    let xs = kept ++ take k maybe in
    let all : xs ++ drop k maybe ≡ before ++ e ∷ p.0 =
    append_assoc kept (take k maybe) (drop k maybe) ∙ ap (λ (zs : List Entry). kept ++ zs) (take-append-drop k maybe) ∙ sym p.1 ∙ append_assoc before (e ∷ []) p.0 in
    let behind : first ++ acts_of (before ++ e ∷ []) ≡ (first ++ acts_of before) ++ acts_in e.content =
    ap (λ (as' : List Act). first ++ as') (acts_of-push before e) ∙ sym (append_assoc first (acts_of before) (acts_in e.content)) in
    subst (IsAllOrNone (first ++ acts_of before) ((first ++ acts_of before) ++ acts_in e.content)) (sym is)
    (elim (before_or_behind xs before e (drop k maybe) p.0 all) [
      | inl short ↦ inl (more_acts first xs before short)
      | inr long ↦ inr (subst (λ (as' : List Act). IsPrefix as' (first ++ acts_of xs)) behind (more_acts first (before ++ e ∷ []) xs long))
    ])

abbrev batch_entry : {F : Type 0} → Durable F → List Write → Entry
batch_entry durable ws = record { loose = loose_ahead durable.journal; content = did_all (map Wrote ws) }

module _ {F : Type 0} (has : F → List ℕ → List ℕ → Type 0) (usable : F → Bool) where
  pub cut_off : (ws : List Write) (state : State) (kept loose entries : List Entry) (first second : Durable F) (dropped : ℕ) (disk more left rest : List ℕ) (at : IsAt has usable state kept loose first)
      → AreLawful state.config state.acts (told_next first.journal (did_all (map Wrote ws) ∷ []))
      → IsBetween first.journal.framing.seed at.base kept (loose ++ told_next first.journal (did_all (map Wrote ws) ∷ [])) disk more → MayLeave disk more left → IsReopened has usable at.base left entries rest second dropped
      → IsAllOrNone state.acts (after_all state.acts ws) (acts_before at.base ++ acts_of entries) ⊎ HasForgery first.journal.framing.seed at.base kept (loose ++ told_next first.journal (did_all (map Wrote ws) ∷ [])) left
  cut_off ws state kept loose entries first second dropped disk more left rest at lawful between may again =
      let e = batch_entry first ws in
      let before = acts_before at.base in
      elim (second_life has usable state kept loose (e ∷ []) entries first second dropped disk more left rest at lawful between may again) [
        | inl back ↦ inl (subst (λ (acts : List Act). IsAllOrNone acts (acts ++ map Wrote ws) (before ++ acts_of entries)) (sym at.acts)
            (entry_whole before kept (loose ++ e ∷ []) (kept ++ loose) e (before ++ acts_of entries) back.whole.0 ([], append-nil ((kept ++ loose) ++ e ∷ []) ∙ append_assoc kept loose (e ∷ [])) back.whole.1))
        | inr forged ↦ inr forged
      ]

  -- the entries of the file begin with those before the batch, and that of the batch
  abbrev BeginsWith : (old : Durable F) (ws : List Write) (before entries : List Entry) → Type 0
  BeginsWith old ws before entries = IsPrefix (before ++ batch_entry old ws ∷ []) entries

  added_first : (old : Durable F) (requests : List Request) (ws : List Write) (state : State) (kept loose k l ks ls told : List Entry) → accept_all state.config (map asked requests) state.acts ≡ Ok ws
      → k ++ l ≡ (kept ++ loose) ++ told_next old.journal (told_by requests state) → IsPrefix (k ++ l) (ks ++ ls) → BeginsWith old ws (kept ++ loose) (ks ++ (ls ++ told))
  added_first old requests ws state kept loose k l ks ls told accepted added goes =
      let e = batch_entry old ws in
      let is : k ++ l ≡ (kept ++ loose) ++ e ∷ [] = added ∙ ap (λ (cs : List Content). (kept ++ loose) ++ told_next old.journal cs) (told_is requests state ws accepted) in
      prefix_on ((kept ++ loose) ++ e ∷ []) (ks ++ ls) (ks ++ (ls ++ told)) (subst (λ (zs : List Entry). IsPrefix zs (ks ++ ls)) is goes) (told, append_assoc ks ls told)

  pub answered : (requests : List Request) (ws : List Write) (calls : List (State → State)) (old new last second : Durable F) (state : State) (kept loose : List Entry) (dropped : ℕ) → IsAt has usable state kept loose old
      → accept_all state.config (map asked requests) state.acts ≡ Ok ws → IsRecorded has usable (later requests) (told_by requests) old new → Lives has usable calls new last
      → (k : List Entry) × (l : List Entry) × (next : IsAt has usable (lived calls (after_batch state (Ok ws))) k l last)
      × ((told entries : List Entry) (disk more left rest : List ℕ) → AreLawful (lived calls (after_batch state (Ok ws))).config (lived calls (after_batch state (Ok ws))).acts told
      → IsBetween last.journal.framing.seed next.base k (l ++ told) disk more → MayLeave disk more left → IsReopened has usable next.base left entries rest second dropped
      → IsAllOrNone state.acts (after_all state.acts ws) (acts_before next.base ++ acts_of entries) ⊎ HasForgery last.journal.framing.seed next.base k (l ++ told) left)
  answered requests ws calls old new last second state kept loose dropped at accepted recorded lives =
      let there = recorded state kept loose at in
      let here : later requests state ≡ after_batch state (Ok ws) = ap (after_batch state) accepted in
      let own = at_state has usable (later requests state) (after_batch state (Ok ws)) there.0 there.1 new here there.4 in
      let on = goes_on has usable calls new last (after_batch state (Ok ws)) there.0 there.1 lives own.0 in
      let e = batch_entry old ws in (
        on.0,
        on.1,
        on.2,
        λ told entries disk more left rest lawful between may again.
            elim (second_life has usable (lived calls (after_batch state (Ok ws))) on.0 on.1 told entries last second dropped disk more left rest on.2 lawful between may again) [
              | inl back ↦ inl (elim on.3 [
                | inl same ↦
                    let begins = added_first old requests ws state kept loose there.0 there.1 on.0 on.1 told accepted (all_added kept loose (told_next old.journal (told_by requests state)) there.0 there.1 there.2) same.2 in
                    let based : on.2.base ≡ at.base = same.0 ∙ own.1 ∙ there.5 in
                    let acts_are : state.acts ≡ acts_before on.2.base ++ acts_of (kept ++ loose) = at.acts ∙ ap (λ (b : Base). acts_before b ++ acts_of (kept ++ loose)) (sym based) in
                    subst (λ (acts : List Act). IsAllOrNone acts (acts ++ map Wrote ws) (acts_before on.2.base ++ acts_of entries)) (sym acts_are)
                    (entry_whole (acts_before on.2.base) on.0 (on.1 ++ told) (kept ++ loose) e (acts_before on.2.base ++ acts_of entries) back.whole.0 begins back.whole.1)
                | inr late ↦
                    let all : after_all state.acts ws ≡ acts_before own.0.base ++ acts_of (there.0 ++ there.1) = own.0.acts in
                    inr (acts_on (after_all state.acts ws) (acts_before on.2.base) (acts_before on.2.base ++ acts_of entries) (subst (λ (acts : List Act). IsPrefix acts (acts_before on.2.base)) (sym all) late) (acts_of entries, refl))
              ])
              | inr forged ↦ inr forged
            ],
      )
