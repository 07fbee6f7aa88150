-- What an opening of what was read goes on from.
use Rattle.std.proofs.Common.{◌≡◌, ◌⊎◌, ℕ, Bool, true, false, List, [], ◌∷◌, ◌++◌, Result, Ok, Err, refl, sym, ap, ◌∙◌, subst, append-nil, inl, inr}
use Rattle.std.specs.Prelude.{IfOk, IsOk}
use Rattle.kv_keys.specs.Outcome.{Refuses}
use Rattle.kv_keys.specs.declared.error.KvError.{KvError}
use Rattle.kv_keys.specs.declared.error.KvError.TheVariants.{OutOfMemory}
use Rattle.kv_bucket.specs.Keeping as keeping
use Rattle.kv_bucket.specs.Keeping.{KeeperState, may_open, then_readers}
use Rattle.kv_durable.specs.Bases.{Base, acts_before, fresh, opening}
use Rattle.kv_durable.specs.Durables.{state_of}
use Rattle.kv_durable.specs.Files.{Reads, file_of}
use Rattle.kv_durable.specs.Journals.{Keeps}
use Rattle.kv_durable.specs.Openings.{HasRead, IsNew, IsReopenedOn}
use Rattle.kv_durable.specs.declared.durable.Durable.{Durable}
use Rattle.kv_durable.specs.declared.journal.Journal.{Journal}
use Rattle.kv_durable.proofs.Finding.{from_empty}
use Rattle.kv_durable_live.specs.Openings.{AreRead, GoesOnFrom, IsRead, LeavesFile}
use Rattle.kv_durable_live.specs.Sharing.{IsAt}
use Rattle.kv_journal.specs.Entries.{Entry, acts_of}
use Rattle.kv_journal.specs.Header.{beginning}
use Rattle.kv_model.specs.Acts.{Act}
use Rattle.kv_model.specs.Configuration.{Configuration, configure}
use Rattle.kv_single.specs.Held.{Represents}

pub both_ok : {X E : Type 0} (r : Result X E) (P Q R : X → Type 0) → ((x : X) → P x → Q x → R x) → IfOk r P → IfOk r Q → IfOk r R
both_ok (Ok x) P Q R f p q = f x p q
both_ok (Err e) P Q R f p q = tt

-- an opening that may be made is refused for want of memory alone
pub refuses_opening : (config : Configuration) (readers : ℕ) (x : KvError) → may_open config readers ≡ Ok config → Refuses x (configure config) → Refuses x (may_open config readers)
refuses_opening config readers x may refuses = only x (configure config) refuses may
  where
    only : (x : KvError) (o : Result Configuration KvError) → Refuses x o → then_readers readers o ≡ Ok config → Refuses x (then_readers readers o)
    only OutOfMemory o r m = subst (λ (p : Result Configuration KvError). IsOk p) (sym m) refl
    only _ (Ok c) r m = absurd cc
    only _ (Err d) r m = absurd cc

none_or_some : (bytes : List ℕ) → (bytes ≡ []) ⊎ (bytes ≡ [] → ⊥)
none_or_some [] = inl refl
none_or_some (b ∷ bs) = inr (λ e. absurd cc)

-- a base is fresh where the file has no checkpoint, which is told of it
fresh_or : (checkpointed : Bool) (P : Type 0) → (checkpointed ≡ false → P) → (checkpointed ≡ true → ⊥) → P
fresh_or false P plain never = plain refl
fresh_or true P plain never = absurd (never refl)

module _ {F : Type 0} (has : F → List ℕ → List ℕ → Type 0) (usable : F → Bool) (config : Configuration) where
  -- what an opening has read, by what it tells
  pub is_read : (file : F) (base : Base) (entries : List Entry) (durable : Durable F) (dropped : ℕ) (checkpointed : Bool) → base.config ≡ config → (checkpointed ≡ false → base ≡ fresh config) → HasRead has usable base file entries durable dropped
      → (usable file ≡ true → (kept loose : List ℕ) → has file kept loose → (kept ++ loose ≡ [] → ⊥) → IsReopenedOn has usable config (kept ++ loose) durable dropped checkpointed)
      → IsRead has usable config file base entries durable dropped
  is_read file base entries durable dropped checkpointed own plain read again = record {
    own = own;
    read = read;
    plain = λ works kept loose h seed es rest reads.
        elim (none_or_some (kept ++ loose)) [
          | inl none ↦ ((read.1 works kept loose h).2 none).1 ∙ ap fresh own
          | inr some ↦
              let tells = (again works kept loose h some).tells in
              fresh_or checkpointed (base ≡ fresh config) plain (λ is. tells.some is (sym (tells.read (fresh config) seed es rest refl reads).stands))
        ];
  }

  pub represents_read : (file : F) (durable : Durable F) (dropped : ℕ) (acts : List Act) → AreRead has usable config file durable dropped acts → Represents (state_of config acts) durable.bucket
  represents_read file durable dropped acts read =
      let before = acts_before read.0 ++ acts_of read.1 in
      subst (λ (as' : List Act). Represents (state_of config as') durable.bucket) (sym read.2) (subst (λ (c : Configuration). Represents (state_of c before) durable.bucket) read.3.own read.3.read.0)

  pub goes_on_from : (file : F) (durable : Durable F) (dropped : ℕ) (journal : Journal F) (began acts : List Act) → AreRead has usable config file durable dropped acts → journal ≡ durable.journal → began ≡ acts → GoesOnFrom has usable config file journal began
  goes_on_from file durable dropped journal began acts read same is = λ works kept loose h.
      let base = read.0 in
      let entries = read.1 in
      let there = read.3 in
      let all = there.read.1 works kept loose h in (
        base,
        entries,
        there.own,
        is ∙ read.2,
        subst (Keeps has usable base entries []) (sym same) (subst (λ (b : Base). Keeps has usable b entries [] durable.journal) all.1 all.0.keeps),
        (λ none. ((all.2 none).0, (all.2 none).1 ∙ ap fresh there.own)),
        (λ some. let again = all.3 some in (again.0, subst (λ (j : Journal F). Reads base (kept ++ loose) j.framing.seed entries again.0) (sym same) again.1.reads)),
        there.plain works kept loose h,
      )

  -- what an opening has read is in its file
  pub opened_leaves : (file : F) (seed : ℕ) (base : Base) (entries : List Entry) (durable : Durable F) (dropped : ℕ) → base.config ≡ config → HasRead has usable base file entries durable dropped
      → (usable file ≡ true → has file [] [] → IsNew has usable config seed durable dropped)
      → usable file ≡ true → (kept loose : List ℕ) → has file kept loose → LeavesFile has config seed kept loose durable.journal.appender.file
  opened_leaves file seed base entries durable dropped own read new works kept loose h =
      let at_file = durable.journal.appender.file in
      elim (none_or_some (kept ++ loose)) [
        | inl none ↦
            let n = new works (from_empty has file kept loose none h) in
            let whole : file_of durable.journal.framing.seed n.at.base [] ≡ beginning seed config =
            ap (λ (m : ℕ). file_of m n.at.base []) n.has_seed ∙ ap (λ (b : Base). file_of seed b []) n.based ∙ append-nil (opening seed (fresh config)) ∙ append-nil (beginning seed config) in
            inl (inr (none, subst (λ (w : List ℕ). has at_file w []) whole n.at.keeps.bytes.file))
        | inr some ↦
            let again = (read.1 works kept loose h).3 some in
            let r = again.1 in
            let seed_of = durable.journal.framing.seed in
            inr (base, seed_of, entries, again.0, own, r.reads, subst (λ (b : Base). has at_file (file_of seed_of b entries) []) r.based r.at.keeps.bytes.file)
      ]

  pub new_from : (file : F) (journal : Journal F) (acts : List Act) → GoesOnFrom has usable config file journal acts → usable file ≡ true → has file [] [] → Keeps has usable (fresh config) [] [] journal × (acts ≡ [])
  new_from file journal acts from works h =
      let there = from works [] [] h in
      let none = there.5 refl in (
        subst (λ (b : Base). Keeps has usable b [] [] journal) none.1 (subst (λ (es : List Entry). Keeps has usable there.0 es [] journal) none.0 there.4),
        there.3 ∙ ap (λ (b : Base). acts_before b ++ acts_of there.1) none.1 ∙ ap acts_of none.0,
      )

  pub at_opened : (began : List Act) (base : Base) (entries : List Entry) (kept : KeeperState) (journal : Journal F) → keeping.IsAt (state_of config began) kept → base.config ≡ config → began ≡ acts_before base ++ acts_of entries → Keeps has usable base entries [] journal
      → (at : IsAt has usable (state_of config began) entries [] kept journal) × (at.durable.base ≡ base)
  at_opened began base entries kept journal at own is keeps = (
    record {
      durable = record { base = base; config = own; represents = at.represents; acts = is ∙ ap (λ (es : List Entry). acts_before base ++ acts_of es) (sym (append-nil entries)); keeps = keeps };
      published = at.published;
    },
    refl,
  )
