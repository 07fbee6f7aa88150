-- The file of a bucket, replaced by one that has a checkpoint.
use Rattle.std.proofs.Common.{◌≡◌, ℕ, true, false, List, [], ◌++◌, Option, Some, None, refl, sym, ap, ◌∙◌, subst, append-nil}
use Rattle.std.specs.Global.{Vec}
use Rattle.std.specs.Prelude.{IfSome}
use Rattle.kv_c.specs.Calling.{StaysAs}
use Rattle.kv_c.specs.Checkpointing.{CanReplace, GoesOn, GoesOnIn, IsReplacement, KeepsFile, MakesCheckpoint}
use Rattle.kv_c.specs.Filing.{durable_of}
use Rattle.kv_c.specs.Lending.{lends, never_fails}
use Rattle.kv_c.specs.Making.{GivesUp, IsFiled, Makes, Settles, stopped_in}
use Rattle.kv_c.specs.Waiting.{Waiting, gone_on}
use Rattle.kv_c.specs.declared.content.Content.{Content}
use Rattle.kv_c.specs.declared.content.Content.TheVariants.{Bucket, View, Feed, Batch, Made}
use Rattle.kv_c.specs.declared.filed.Filed.{Filed}
use Rattle.kv_c.specs.declared.outbox.Outbox.{Outbox}
use Rattle.kv_c.proofs.Settled.{Behind, before, settled, undone}
use Rattle.kv_durable.specs.Bases.{opening, replaced_by}
use Rattle.kv_durable.specs.Durables.{IsAt}
use Rattle.kv_durable.specs.Journals.{Keeps}
use Rattle.kv_durable.specs.declared.durable.Durable.{Durable}
use Rattle.kv_durable.specs.declared.journal.Journal.{Journal}
use Rattle.kv_journal.specs.Entries.{Entry}
use Rattle.kv_model.specs.Acts.{Act}
use Rattle.kv_model.specs.Configuration.{Configuration}
use Rattle.kv_model.specs.State.{State}
use Rattle.kv_single.specs.Held.{Bucketed}
use Rattle.kv_store.specs.Standing.{StandsFor}

module _ (b : Bucketed) (old : Filed) (journal : Journal Outbox) (bytes : List ℕ) where
  -- what is known of the journal of the new file, and of its bytes
  abbrev pub AreBytes : ℕ → Type 0
  AreBytes seed = (acts : List Act) → StandsFor acts b.version → b.version.config ≡ old.journal.value.config.config → bytes ≡ opening seed (replaced_by old.journal.value.config.config acts)

  abbrev pub AreKept : Type 0
  AreKept = (acts : List Act) → StandsFor acts b.version → b.version.config ≡ old.journal.value.config.config → Keeps lends never_fails (replaced_by old.journal.value.config.config acts) [] [] journal

  pub at_last : AreKept → (state : State) (kept loose : List Entry) → IsAt lends never_fails state kept loose (durable_of b old)
      → (next : IsAt lends never_fails state [] [] (record { bucket = b; journal = journal })) × (next.base ≡ replaced_by state.config state.acts)
  at_last keeps state kept loose at =
      let own : old.journal.value.config.config ≡ state.config = at.keeps.own ∙ at.config in
      let same : b.version.config ≡ old.journal.value.config.config = at.represents.config ∙ sym own in (
        record {
          base = replaced_by state.config state.acts;
          config = refl;
          represents = at.represents;
          acts = sym (append-nil state.acts);
          keeps = subst (λ (c : Configuration). Keeps lends never_fails (replaced_by c state.acts) [] [] journal) own (keeps state.acts at.represents.version same);
        },
        refl,
      )

  pub bytes_are : (seed : ℕ) → AreBytes seed → (acts : List Act) → StandsFor acts b.version → b.version.config ≡ old.journal.value.config.config → bytes ≡ opening seed (replaced_by b.version.config acts)
  bytes_are seed are acts stands same = subst (λ (c : Configuration). bytes ≡ opening seed (replaced_by c acts)) (sym same) (are acts stands same)

-- a file of which nothing is known has all that it is lent
pub lends_new : (outbox : Outbox) (bytes : List ℕ) → outbox.found ≡ None → outbox.is_clean ≡ true → lends outbox bytes []
lends_new outbox bytes none clean = (subst (λ (o : Option (Vec ℕ)). IfSome o (λ v. v.items ≡ bytes ++ [])) (sym none) tt, λ e. clean)

pub is_replacement : (seed : ℕ) (b : Bucketed) (old new : Filed) (journal : Journal Outbox) (bytes : List ℕ) (file : Outbox) → new.journal.value ≡ journal → new.number ≡ old.number → new.has_failed ≡ false
    → journal.framing.seed ≡ seed → journal.appender.sync ≡ old.journal.value.appender.sync → file.found ≡ None → file.is_clean ≡ true → AreBytes b old journal bytes seed
    → ((acts : List Act) → StandsFor acts b.version → b.version.config ≡ old.journal.value.config.config → never_fails file ≡ true → lends file bytes [] → Keeps lends never_fails (replaced_by old.journal.value.config.config acts) [] [] journal)
    → IsReplacement seed b old new bytes
is_replacement seed b old new journal bytes file is number works seeded sync none clean are keeps = record {
  goes_on = record {
    number = number;
    works = works;
    seeded = ap (λ (j : Journal Outbox). j.framing.seed) is ∙ seeded;
    sync = ap (λ (j : Journal Outbox). j.appender.sync) is ∙ sync;
    at_last = λ state kept loose at.
        let kept_so : AreKept b old journal bytes = λ acts stands same. keeps acts stands same refl (lends_new file bytes none clean) in
        let there = at_last b old journal bytes kept_so state kept loose at in
        subst (λ (j : Journal Outbox). let d : Durable Outbox = record { bucket = b; journal = j } in (next : IsAt lends never_fails state [] [] d) × (next.base ≡ replaced_by state.config state.acts)) (sym is) there;
  };
  checkpoint = bytes_are b old journal bytes seed are;
}

-- ---- in what a handle holds

pub can_replace : (seed : ℕ) (content : Content) (bucket : Bucketed) (filed next : Filed) (bytes : List ℕ) → IsFiled content bucket filed → IsReplacement seed bucket filed next bytes → CanReplace seed content next bytes
can_replace seed (Bucket b None m) bucket filed next bytes is can = absurd is
can_replace seed (View v o) bucket filed next bytes is can = absurd is
can_replace seed (Feed f o) bucket filed next bytes is can = absurd is
can_replace seed (Batch whats) bucket filed next bytes is can = absurd is
can_replace seed (Made w n) bucket filed next bytes is can = absurd is
can_replace seed (Bucket b (Some f) m) bucket filed next bytes is can = subst (λ (x : Bucketed). IsReplacement seed x f next bytes) (sym is.0) (subst (λ (y : Filed). IsReplacement seed bucket y next bytes) (sym is.1) can)

-- ---- in both steps

module _ (seed : ℕ) (old mid new : Option Content) (makes : Makes (MakesCheckpoint seed) old mid) where
  pub goes_on : (told : ℕ) → Settles mid told new → StaysAs old new × GoesOn seed old new
  goes_on told settles =
      let a = before (MakesCheckpoint seed) old mid makes in
      let e = (settled a.waiting a.number told new (subst (λ (o : Option Content). Settles o told new) a.mid_is settles)).0 in
      let same : e.bucket ≡ a.bucket = e.is_so.0 ∙ ap (λ n. gone_on a.waiting.bucket n) a.is_made.next ∙ a.is_made.bucket in
      let file : GoesOnIn seed a.bucket a.filed e.filed = subst (λ (f : Filed). GoesOnIn seed a.bucket a.filed f) (sym e.is_so.1) a.is_made.replacement.goes_on in
      let both : StaysAs (Some (Bucket a.bucket (Some a.filed) a.number)) (Some (Bucket e.bucket (Some e.filed) a.number)) × GoesOn seed (Some (Bucket a.bucket (Some a.filed) a.number)) (Some (Bucket e.bucket (Some e.filed) a.number))
      = ((refl, same), (refl, same, file)) in
      subst (λ (o : Option Content). StaysAs o new × GoesOn seed o new) (sym a.old_is)
      (subst (λ (x : Option Content). StaysAs (Some (Bucket a.bucket (Some a.filed) a.number)) x × GoesOn seed (Some (Bucket a.bucket (Some a.filed) a.number)) x) (sym e.new_is) both)

  pub given_up : GivesUp mid new → StaysAs old new × (stopped_in new ≡ true)
  given_up = undone (MakesCheckpoint seed) old mid new (λ b f w made. made.bucket) makes

kept_of : (w : Waiting) (m : ℕ) (new : Option Content) → KeepsFile (Some (Made w m)) new → Behind (λ b f. (b ≡ w.bucket) × (w.former ≡ Some f)) m new
kept_of w m None is = absurd is
kept_of w m (Some (Bucket b None n)) is = absurd is
kept_of w m (Some (View v n)) is = absurd is
kept_of w m (Some (Feed g n)) is = absurd is
kept_of w m (Some (Batch whats)) is = absurd is
kept_of w m (Some (Made x n)) is = absurd is
kept_of w m (Some (Bucket b (Some f) n)) is = record { bucket = b; filed = f; new_is = ap (λ (k : ℕ). Some (Bucket b (Some f) k)) is.0; is_so = (is.1, is.2) }

pub kept : (seed : ℕ) (old mid new : Option Content) → Makes (MakesCheckpoint seed) old mid → KeepsFile mid new → new ≡ old
kept seed old mid new makes keeps =
    let a = before (MakesCheckpoint seed) old mid makes in
    let e = kept_of a.waiting a.number new (subst (λ (o : Option Content). KeepsFile o new) a.mid_is keeps) in
    let file : Some e.filed ≡ Some a.filed = sym e.is_so.1 ∙ a.is_made.former in
    e.new_is ∙ ap (λ (b : Bucketed). Some (Bucket b (Some e.filed) a.number)) (e.is_so.0 ∙ a.is_made.bucket) ∙ ap (λ (f : Option Filed). Some (Bucket a.bucket f a.number)) file ∙ sym a.old_is
