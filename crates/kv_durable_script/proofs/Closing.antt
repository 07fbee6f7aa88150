-- What was answered is in the file that was closed.
use Rattle.std.proofs.Common.{◌≡◌, ◌⊎◌, ℕ, Bool, true, false, List, Option, Result, Ok, Err, refl, sym, ap, subst, ◌∙◌, inl, inr}
use Rattle.std.specs.Prelude.{⊤, OnOk}
use Rattle.kv_script.specs.declared.form.Form.{Form}
use Rattle.kv_model.specs.State.{State}
use Rattle.kv_journal.specs.Entries.{Entry}
use Rattle.kv_replay.specs.Replaying.{EndsAt, LeftAt}
use Rattle.kv_replay.specs.Sessions.{outside}
use Rattle.kv_durable.specs.Bases.{Base}
use Rattle.kv_durable.specs.Durables.{IsAt}
use Rattle.kv_durable.specs.Endings.{IsClosed}
use Rattle.kv_durable.specs.Journals.{Keeps, is_stopped}
use Rattle.kv_durable.specs.declared.durable.Durable.{Durable}
use Rattle.kv_durable.specs.declared.journal.Journal.{Journal}
use Rattle.kv_durable_script.specs.Keeping.{HasKept, KeepsOn}
use Rattle.kv_durable_script.specs.Runs.{ClosesBehind, HasEnded, KeepsAnswered}

module _ {F : Type 0} (has : F → List ℕ → List ℕ → Type 0) (usable : F → Bool) where
  at_of : (base : Base) (state : State) (kept loose : List Entry) (d : Durable F) → is_stopped usable d.journal ≡ false → HasKept has usable base state kept loose d → (at : IsAt has usable state kept loose d) × (at.base ≡ base)
  at_of base state kept loose d goes has_kept = (
    record {
      base = base;
      config = has_kept.config;
      represents = has_kept.represents;
      acts = has_kept.acts;
      keeps = keeps_of has_kept.file;
    },
    refl,
  )
    where
      keeps_of : {X : Type 0} → Keeps has usable base kept loose d.journal ⊎ ((is_stopped usable d.journal ≡ true) × X) → Keeps has usable base kept loose d.journal
      keeps_of {X} file = elim file [
        | inl keeps ↦ keeps
        | inr stopped ↦ absurd (let no : ⊥ = cc (goes, stopped.0) in no)
      ]

  pub closes : (form : Form) (state : State) (kept loose : List Entry) (unread left : Option (List ℕ)) (first last : Durable F) (file : F) → KeepsOn has usable first last → is_stopped usable last.journal ≡ false
      → ((s : State) (k l : List Entry) (at : IsAt has usable s k l last) → IsClosed has at.base k l s.acts last.journal file) → EndsAt form (outside state) unread left last.bucket
      → (at : IsAt has usable state kept loose first) → ClosesBehind has usable form at.base state kept loose unread left first file
  closes form state kept loose unread left first last file on goes closed ends at =
      let more = on at.base state kept loose (record { config = at.config; represents = at.represents; acts = at.acts; file = inl at.keeps }) in
      let there = at_of more.later_base more.later more.on_disk more.behind last goes more.has_kept in
      record {
        last = last;
        more = more;
        closed = subst (λ (b : Base). IsClosed has b more.on_disk more.behind more.later.acts last.journal file) there.1 (closed more.later more.on_disk more.behind there.0);
        input = ends.input;
        read = ends.read;
        answered = ends.stands;
      }

  -- however it has ended
  pub answers : (form : Form) (state : State) (kept loose : List Entry) (unread left held holds : Option (List ℕ)) (first last : Durable F) (file : F) → KeepsOn has usable first last
      → ((s : State) (k l : List Entry) (at : IsAt has usable s k l last) → HasEnded has at.base k l s.acts last.journal file) → LeftAt form (outside state) unread left held holds last.bucket
      → (at : IsAt has usable state kept loose first) → KeepsAnswered has usable form at.base state kept loose unread left held holds first file
  answers form state kept loose unread left held holds first last file on ended left_at at =
      let more = on at.base state kept loose (record { config = at.config; represents = at.represents; acts = at.acts; file = inl at.keeps }) in
      record {
        last = last;
        more = more;
        answered = left_at;
        file_has = λ goes.
            let there = at_of more.later_base more.later more.on_disk more.behind last goes more.has_kept in
            subst (λ (b : Base). HasEnded has b more.on_disk more.behind more.later.acts last.journal file) there.1 (ended more.later more.on_disk more.behind there.0);
      }

pub ok_gives : {E P : Type 0} (r : Result ⊤ E) → OnOk r P → r ≡ Ok tt → P
ok_gives {E} {P} (Ok x) gives is = gives
ok_gives {E} {P} (Err e) gives is = absurd (let no : ⊥ = cc is in no)

-- what is seen of the last one is so of it
pub goes_last : {F : Type 0} (usable : F → Bool) (last seen : Durable F) (journal : Journal F) (stops : Bool) → stops ≡ is_stopped usable journal → journal ≡ seen.journal → seen ≡ last → stops ≡ false
    → is_stopped usable last.journal ≡ false
goes_last {F} usable last seen journal stops is there here none =
    ap (λ (d : Durable F). is_stopped usable d.journal) (sym here) ∙ ap (λ (j : Journal F). is_stopped usable j) (sym there) ∙ sym is ∙ none
