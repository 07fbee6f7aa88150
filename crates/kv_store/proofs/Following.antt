-- What is found in a version that takes in the writes of others.
use Rattle.std.proofs.Common.{◌≡◌, ℕ, ◌+◌, ◌-◌, cond, ◌==◌, List, [], Some, unwrap_or, length, sym, ap, subst, ◌∙◌}
use Rattle.std.specs.Str.{bytes_eq}
use Rattle.kv_model.specs.Acceptance.{IsLawful}
use Rattle.kv_model.specs.Acts.{Act, Write}
use Rattle.kv_model.specs.Configuration.{Configuration, IsLegal}
use Rattle.kv_model.specs.Reads.{unless_empty, write_at_of}
use Rattle.kv_model.specs.Retained.{kept, retained, revisions}
use Rattle.kv_store.specs.Standing.{StandsFor}
use Rattle.kv_store.specs.Stored.{Stored, kept_at}
use Rattle.kv_store.specs.inside.Following.{IsAlike}
use Rattle.kv_store.specs.inside.Next.{HasOneMore, kept_after, kept_before, next_kept, values_after}

module _ (first second : Stored) (alike : IsAlike first second) where
  kept_before_alike : (key : List ℕ) → kept_before key second ≡ kept_before key first
  kept_before_alike key = ap (λ o. unwrap_or o []) (alike.kept key)

  kept_after_alike : (w : Write) → kept_after w second ≡ kept_after w first
  kept_after_alike w =
      ap (λ (c : Configuration). next_kept c.history w.op w.revision (kept_before w.key second)) alike.config
      ∙ ap (next_kept first.config.history w.op w.revision) (kept_before_alike w.key)

  values_after_alike : (w : Write) → values_after w second ≡ values_after w first
  values_after_alike w =
      ap (λ n. (n + length (kept_after w second)) - length (kept_before w.key second)) alike.values
      ∙ ap (λ (ks : List ℕ). (first.values + length ks) - length (kept_before w.key second)) (kept_after_alike w)
      ∙ ap (λ (ks : List ℕ). (first.values + length (kept_after w first)) - length ks) (kept_before_alike w.key)

  -- what has a write more than a version has it more than one that is like it
  pub more_alike : (w : Write) (new : Stored) → HasOneMore w second new → HasOneMore w first new
  more_alike w new more = record {
    config = more.config ∙ alike.config;
    last = more.last ∙ ap (λ n. n + 1) alike.last;
    written = λ revision. more.written revision ∙ ap (cond (w.revision == revision) (Some w)) (alike.written revision);
    kept = λ key.
        more.kept key
        ∙ ap (λ ks. cond (bytes_eq w.key key) (Some ks) (kept_at key second)) (kept_after_alike w)
        ∙ ap (cond (bytes_eq w.key key) (Some (kept_after w first))) (alike.kept key);
    last_of = λ key. more.last_of key ∙ ap (cond (bytes_eq w.key key) (Some w)) (alike.last_of key);
    values = more.values ∙ values_after_alike w;
    floor = more.floor ∙ alike.floor;
    sealed = more.sealed ∙ alike.sealed;
  }

-- ---- versions that are alike stand for the same acts

pub stands_alike : (acts : List Act) (first second : Stored) → IsAlike first second → StandsFor acts first → StandsFor acts second
stands_alike acts first second alike s = record {
  legal = subst IsLegal (sym alike.config) s.legal;
  lawful = subst (λ c. IsLawful c acts) (sym alike.config) s.lawful;
  last = alike.last ∙ s.last;
  written = λ revision. alike.written revision ∙ s.written revision ∙ ap (λ (c : Configuration). write_at_of c.history revision acts) (sym alike.config);
  kept = λ key. alike.kept key ∙ s.kept key ∙ ap (λ (c : Configuration). unless_empty (revisions (kept c.history key acts))) (sym alike.config);
  last_of = λ key. alike.last_of key ∙ s.last_of key;
  values = alike.values ∙ s.values ∙ ap (λ (c : Configuration). length (retained c.history acts)) (sym alike.config);
  floor = alike.floor ∙ s.floor;
  sealed = alike.sealed ∙ s.sealed;
}

-- and those that stand for some acts under one configuration are alike
pub alike_standing : (acts : List Act) (first second : Stored) → second.config ≡ first.config → StandsFor acts first → StandsFor acts second → IsAlike first second
alike_standing acts first second same s t = record {
  config = same;
  last = t.last ∙ sym s.last;
  written = λ revision. t.written revision ∙ ap (λ (c : Configuration). write_at_of c.history revision acts) same ∙ sym (s.written revision);
  kept = λ key. t.kept key ∙ ap (λ (c : Configuration). unless_empty (revisions (kept c.history key acts))) same ∙ sym (s.kept key);
  last_of = λ key. t.last_of key ∙ sym (s.last_of key);
  values = t.values ∙ ap (λ (c : Configuration). length (retained c.history acts)) same ∙ sym s.values;
  floor = t.floor ∙ sym s.floor;
  sealed = t.sealed ∙ sym s.sealed;
}
