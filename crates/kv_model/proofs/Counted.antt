-- The revisions of what is shown of writes that count up.
use Rattle.std.proofs.Common.{◌≡◌, ℕ, suc, ◌+◌, Bool, true, false, cond, ◌&&◌, not, List, [], ◌∷◌, Some, None, length, filter, arith}
use Rattle.std.specs.List.{cons_option}
use Rattle.kv_model.specs.Acts.{Write, is_put}
use Rattle.kv_model.proofs.Numbered.{CountsFrom}
use Rattle.kv_model.proofs.Rising.{Rises, Rises-more, Rises-none, Rises-lower}
use Rattle.kv_model.specs.declared.options.Options.{Options}
use Rattle.kv_model.specs.Given.{AnEntry, all_shown, entry_of, item_revisions}

-- one more write in front
shown_one : (options : Options) (w : Write) (n high : ℕ) (ws : List Write) → w.revision ≡ n
    → Rises (suc n) high (item_revisions (all_shown options ws)) → Rises n high (item_revisions (all_shown options (w ∷ ws)))
shown_one options w n high ws e h =
    elim (options.ignore_deletes && not (is_put w.op)) as (λ b. Rises n high (item_revisions (cons_option (cond b None (Some (AnEntry (entry_of options.headers_only w)))) (all_shown options ws)))) [
      | true ↦ Rises-lower (suc n) n high _ (omega arith) h
      | false ↦ rw e (Rises-more n high n (item_revisions (all_shown options ws)) (omega arith) h)
    ]

-- what is shown of any selection of writes that count up rises
pub shown_rises : (options : Options) (p : Write → Bool) (n : ℕ) (ws : List Write) → CountsFrom n ws → Rises n (n + length ws) (item_revisions (all_shown options (filter p ws)))
shown_rises options p n [] h = Rises-none n (n + 0) (omega arith)
shown_rises options p n (w ∷ ws) h =
    let e : n + suc (length ws) ≡ suc n + length ws = omega arith in
    let rest : Rises (suc n) (n + suc (length ws)) (item_revisions (all_shown options (filter p ws))) = rw e (shown_rises options p (suc n) ws h.1) in
    elim (p w) as (λ b. Rises n (n + suc (length ws)) (item_revisions (all_shown options (cond b (w ∷ filter p ws) (filter p ws))))) [
      | true ↦ shown_one options w n _ (filter p ws) h.0 rest
      | false ↦ Rises-lower (suc n) n _ _ (omega arith) rest
    ]
