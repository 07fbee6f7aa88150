-- Stored writes that are put back, one after the other.
use Rattle.std.proofs.Common.{◌≡◌, ℕ, ◌<◌, Bool, true, false, cond, ◌==◌, List, [], ◌∷◌, ◌++◌, Option, Some, None, unwrap_or, length, refl, sym, ap, ◌∙◌, append-nil}
use Rattle.std.specs.List.{Contains, last_or}
use Rattle.std.specs.Str.{bytes_eq}
use Rattle.std.specs.Cmp.Lexicographic.{same_text}
use Rattle.std.proofs.lemmas.List.{map-append}
use Rattle.std.proofs.lemmas.List.Elements.{filter-append}
use Rattle.kv_model.specs.Acts.{Write, is_purge}
use Rattle.kv_model.specs.Reads.{unless_empty}
use Rattle.kv_model.specs.Retained.{last_n, revisions, since_purge}
use Rattle.kv_model.proofs.Keeping.{last_n-push, revisions-last_n, since_purge-push}
use Rattle.kv_store.specs.Stored.{Stored, kept_at, last_at}
use Rattle.kv_store.specs.PuttingBack.{PutsBack}
use Rattle.kv_store.specs.inside.Next.{kept_after, next_kept}
use Rattle.kv_store.proofs.Standings.{find-push, last_or-push, length-last_n}
use Rattle.kv_model.proofs.Found.{or_empty, unless_empty-long}
use Rattle.kv_journal.specs.Restored.{HasPutBack, those_of}

-- the next kept revisions are those of the next kept writes
next_of : (h : ℕ) (ws : List Write) (w : Write) → 0 < h → next_kept h w.op w.revision (revisions (last_n h (since_purge ws))) ≡ revisions (last_n h (since_purge (ws ++ w ∷ [])))
next_of h ws w some =
    by (is_purge w.op)
    ∙ ap (λ (xs : List Write). revisions (last_n h xs)) (sym (since_purge-push ws w))
  where
    by : (b : Bool) → last_n h (cond b [] (revisions (last_n h (since_purge ws))) ++ w.revision ∷ []) ≡ revisions (last_n h (cond b [] (since_purge ws) ++ w ∷ []))
    by true = sym (revisions-last_n h (w ∷ []))
    by false =
        ap (last_n h) (sym (map-append (λ (v : Write). v.revision) (last_n h (since_purge ws)) (w ∷ [])))
        ∙ sym (revisions-last_n h (last_n h (since_purge ws) ++ w ∷ []))
        ∙ ap revisions (sym (last_n-push h (since_purge ws) w some))

those-push : (key : List ℕ) (ws : List Write) (w : Write) (b : Bool) → bytes_eq w.key key ≡ b → those_of key (ws ++ w ∷ []) ≡ those_of key ws ++ cond b (w ∷ []) []
those-push key ws w b e = filter-append (λ v. bytes_eq v.key key) ws (w ∷ []) ∙ ap (λ (c : Bool). those_of key ws ++ cond c (w ∷ []) []) e

pub one_more_back : (ws : List Write) (w : Write) (old new : Stored) → 0 < old.config.history → HasPutBack ws old → ((v : Write) → Contains ws v → v.revision < w.revision) → PutsBack w old new → HasPutBack (ws ++ w ∷ []) new
one_more_back ws w old new some made lesser puts = record {
  written = λ r. puts.written r ∙ ap (λ (o : Option Write). cond (w.revision == r) (Some w) o) (made.written r) ∙ sym (find-push r ws w lesser);
  kept = λ key. puts.kept key ∙ kept_by key (bytes_eq w.key key) refl
      ∙ ap (λ (h : ℕ). unless_empty (revisions (last_n h (since_purge (those_of key (ws ++ w ∷ [])))))) (sym history);
  last_of = λ key. puts.last_of key ∙ last_by key (bytes_eq w.key key) refl;
}
  where
    history : new.config.history ≡ old.config.history
    history = ap (λ c. c.history) puts.config

    kept_by : (key : List ℕ) (b : Bool) → bytes_eq w.key key ≡ b → cond b (Some (kept_after w old)) (kept_at key old) ≡ unless_empty (revisions (last_n old.config.history (since_purge (those_of key (ws ++ w ∷ [])))))
    kept_by key true e =
        let h = old.config.history in
        let same : w.key ≡ key = same_text w.key key (sym e) in
        let before : unwrap_or (kept_at w.key old) [] ≡ revisions (last_n h (since_purge (those_of key ws))) =
        ap (λ (k : List ℕ). unwrap_or (kept_at k old) []) same ∙ ap (λ (o : Option (List ℕ)). unwrap_or o []) (made.kept key) ∙ or_empty (revisions (last_n h (since_purge (those_of key ws)))) in
        let long : 0 < length (kept_after w old) = length-last_n h (cond (is_purge w.op) [] (unwrap_or (kept_at w.key old) [])) w.revision some in
        let next : kept_after w old ≡ revisions (last_n h (since_purge (those_of key ws ++ w ∷ []))) = ap (next_kept h w.op w.revision) before ∙ next_of h (those_of key ws) w some in
        sym (unless_empty-long (kept_after w old) long) ∙ ap unless_empty next
        ∙ ap (λ (xs : List Write). unless_empty (revisions (last_n h (since_purge xs)))) (sym (those-push key ws w true e))
    kept_by key false e =
        made.kept key ∙ ap (λ (xs : List Write). unless_empty (revisions (last_n old.config.history (since_purge xs)))) (sym (those-push key ws w false e ∙ append-nil (those_of key ws)))

    last_by : (key : List ℕ) (b : Bool) → bytes_eq w.key key ≡ b → cond b (Some w) (last_at key old) ≡ last_or None (those_of key (ws ++ w ∷ []))
    last_by key true e = sym (ap (λ (xs : List Write). last_or None xs) (those-push key ws w true e) ∙ last_or-push (those_of key ws) w None)
    last_by key false e = made.last_of key ∙ ap (λ (xs : List Write). last_or None xs) (sym (those-push key ws w false e ∙ append-nil (those_of key ws)))
