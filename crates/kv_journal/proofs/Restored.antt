-- A version that was made of a checkpoint.
use Rattle.std.proofs.Common.{◌≡◌, ℕ, zero, suc, ◌-◌, ◌<◌, ◌≤◌, List, [], ◌∷◌, Option, Some, None, length, drop, refl, sym, subst, ap, ◌∙◌, arith}
use Rattle.std.specs.List.{last_or}
use Rattle.std.proofs.lemmas.List.{drop_all}
use Rattle.kv_model.specs.Acceptance.{IsLawful}
use Rattle.kv_model.specs.Acts.{Act, Write}
use Rattle.kv_model.specs.Compaction.{stored_writes}
use Rattle.kv_model.specs.Configuration.{Configuration, IsLegal}
use Rattle.kv_model.specs.Reads.{unless_empty, write_at_of}
use Rattle.kv_model.specs.Retained.{kept, last_n, retained, revisions, since_purge, writes_of_key}
use Rattle.kv_model.proofs.KeptLaws.{last_or-since_purge}
use Rattle.kv_store.specs.Standing.{StandsFor}
use Rattle.kv_store.specs.Stored.{Stored}
use Rattle.kv_store.proofs.Standings.{history_some}
use Rattle.kv_journal.specs.Checkpoints.{checkpoint_of}
use Rattle.kv_journal.specs.Restored.{IsRestored, those_of}
use Rattle.kv_journal.proofs.Restoring.{kept_of_stored}

last_drop : (k : ℕ) (x : Write) (xs : List Write) (o : Option Write) → k ≤ length xs → last_or None (drop k (x ∷ xs)) ≡ last_or o (x ∷ xs)
last_drop zero x xs o h = refl
last_drop (suc k) x [] o h = absurd (omega (arith, h))
last_drop (suc k) x (y ∷ ys) o h = last_drop k y ys (Some x) (omega (arith, h))

last_of_last : (n : ℕ) (xs : List Write) → 0 < n → last_or None (last_n n xs) ≡ last_or None xs
last_of_last n [] some = ap (λ (ws : List Write). last_or None ws) (drop_all (0 - n) [] (omega arith))
last_of_last n (x ∷ xs) some = last_drop (length (x ∷ xs) - n) x xs None (omega (arith, some))

last_kept : (n : ℕ) (ws : List Write) → 0 < n → last_or None (last_n n (since_purge ws)) ≡ last_or None ws
last_kept n ws some = last_of_last n (since_purge ws) some ∙ last_or-since_purge ws None

pub stands_again : (config : Configuration) (acts : List Act) (new : Stored) → IsLegal config → IsLawful config acts → IsRestored config (checkpoint_of config acts) new → StandsFor acts new
stands_again config acts new legal lawful r =
    let h = config.history in
    let some = history_some config legal in
    let same : (key : List ℕ) → last_n h (since_purge (those_of key (stored_writes h acts))) ≡ kept h key acts = λ key. sym (kept_of_stored config h key acts lawful some) in
    let history : new.config.history ≡ h = ap (λ (c : Configuration). c.history) r.same in
    record {
      legal = subst IsLegal (sym r.same) legal;
      lawful = subst (λ (c : Configuration). IsLawful c acts) (sym r.same) lawful;
      last = r.last;
      written = λ n. r.writes.written n ∙ ap (λ (m : ℕ). write_at_of m n acts) (sym history);
      kept = λ key.
          r.writes.kept key
          ∙ ap (λ (m : ℕ). unless_empty (revisions (last_n m (since_purge (those_of key (stored_writes h acts)))))) history
          ∙ ap (λ (ws : List Write). unless_empty (revisions ws)) (same key)
          ∙ ap (λ (m : ℕ). unless_empty (revisions (kept m key acts))) (sym history);
      last_of = λ key.
          r.writes.last_of key ∙ sym (last_kept h (those_of key (stored_writes h acts)) some)
          ∙ ap (λ (ws : List Write). last_or None ws) (same key) ∙ last_kept h (writes_of_key key acts) some;
      values = r.values ∙ ap (λ (m : ℕ). length (retained m acts)) (sym history);
      floor = r.floor;
      sealed = r.sealed;
    }
