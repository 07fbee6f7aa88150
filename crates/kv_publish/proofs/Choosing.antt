-- The step that adds acts of which something is known.
use Rattle.std.proofs.Common.{◌≡◌, ℕ, zero, suc, ◌<◌, ◌==◌, Bool, true, false, List, [], ◌∷◌, ◌++◌, length, map, refl, ap, sym, ◌∙◌, subst, arith, inl, set, None}
use Rattle.std.proofs.lemmas.Bool.{eq-eqb}
use prog.Atomic.{either}
use Rattle.logbook.specs.Pages.{Cell, Nib, cell, nib, may_write, gives, step, Moves, Goes}
use Rattle.kv_model.specs.Acts.{Act}
use Rattle.kv_publish.specs.declared.entry.Entry.{Entry}
use Rattle.kv_publish.specs.Rules.{IsKept, Came, Choosing, acts_in, entry, history_from, whether}
use Rattle.kv_publish.proofs.Histories.{unused}
use Rattle.kv_publish.proofs.Stepping.{StayHome, came_still, home_set, moved, no_cells, shown, stay_set}

-- entries of these acts, each by one right
abbrev pub chosen : ℕ → List Act → List Entry
chosen right acts = map (λ act. entry act true right right) acts

acts_chosen : (right : ℕ) (acts : List Act) → acts_in (chosen right acts) ≡ acts
acts_chosen right [] = refl
acts_chosen right (act ∷ acts) = ap (λ (rest : List Act). act ∷ rest) (acts_chosen right acts)

came_all : (cells : List Cell) (log : List Entry) (right : ℕ) (acts : List Act) → Came cells log → (cell cells right).1 ≡ true → Came cells (log ++ chosen right acts)
came_all cells [] right [] came home = tt
came_all cells [] right (act ∷ acts) came home = (home, came_all cells [] right acts tt home)
came_all cells (e ∷ log) right acts came home = (came.0, came_all cells log right acts came.1 home)

-- by one right all of them came, where none was added by it before
own_chosen : (right : ℕ) (acts : List Act) → history_from right (chosen right acts) ≡ chosen right acts
own_chosen right [] = refl
own_chosen right (act ∷ acts) =
    let e = entry act true right right in
    let rest = history_from right (chosen right acts) in
    ap (λ (b : Bool). whether b (e ∷ rest) rest) (eq-eqb right right refl) ∙ ap (λ (l : List Entry). e ∷ l) (own_chosen right acts)

by_test : (b : Bool) (e : Entry) (xs ys more all zs : List Entry) → whether b (e ∷ xs) ys ≡ [] → (ys ≡ [] → all ≡ zs) → whether b (e ∷ more) all ≡ zs
by_test true e xs ys more all zs none f = absurd (cc none)
by_test false e xs ys more all zs none f = f none

history_chosen : (right : ℕ) (log : List Entry) (acts : List Act) → history_from right log ≡ [] → history_from right (log ++ chosen right acts) ≡ chosen right acts
history_chosen right [] acts none = own_chosen right acts
history_chosen right (e ∷ log) acts none =
    by_test (e.right == right) e (history_from e.next log) (history_from right log) (history_from e.next (log ++ chosen right acts)) (history_from right (log ++ chosen right acts)) (chosen right acts) none
    (history_chosen right log acts)

chooses_goes : (holds : List Act → Type 0) (acts : List Act) → holds acts → (c : Cell) (cells : List Cell) (log v : List Entry) (ask : Entry) (key : ℕ) → IsKept (c ∷ cells) log → key < length (c ∷ cells) → (cell (c ∷ cells) key).1 ≡ false
    → Goes IsKept shown (moved ask) 0 (v, (nib may_write key 0, None)) (λ n. either (n == 0) 0 n) (Choosing holds (step 0 0 0 ask) (v, (nib may_write key 0, None))) (c ∷ cells) log
chooses_goes holds acts known c cells log v ask zero kept within away = absurd (cc (kept.head, away))
chooses_goes holds acts known c cells log v ask (suc j) kept within away =
    let n : ℕ = either (c.0 == 0) 0 c.0 in
    let one : List Cell = (n, true) ∷ cells in
    let after : List Cell = set one (suc j) (0, true) in
    let stay : StayHome (c ∷ cells) after = λ k home. stay_set one (suc j) 0 k (stay_set (c ∷ cells) 0 n k home) in
    let came : (cell after (suc j)).1 ≡ true = home_set one (suc j) 0 within in
    let more : List Entry = chosen (suc j) acts in (
      gives,
      more,
      None,
      refl,
      record { head = refl; came = came_all after log (suc j) acts (came_still (c ∷ cells) after log stay kept.came) came },
      inl (refl, refl),
      (λ key is.
          let all : acts_in (history_from (suc j) (log ++ more)) ≡ acts = ap acts_in (history_chosen (suc j) log acts (unused (c ∷ cells) (suc j) log kept.came away)) ∙ acts_chosen (suc j) acts in
          subst (λ (k : ℕ). holds (acts_in (history_from k (log ++ more)))) (ap (λ (q : Nib). q.key) is) (subst holds (sym all) known)),
    )

-- whatever the log is, who has a right by which nothing was added adds such acts by it
pub chooses_moves : (holds : List Act → Type 0) (acts : List Act) → holds acts → (v : List Entry) (ask : Entry) (key : ℕ) → Moves IsKept shown (moved ask) 0 (v, (nib may_write key 0, None)) (λ n. either (n == 0) 0 n) (Choosing holds (step 0 0 0 ask) (v, (nib may_write key 0, None)))
chooses_moves holds acts known v ask key [] log kept pre away = absurd (no_cells log kept)
chooses_moves holds acts known v ask key (c ∷ cells) log kept pre away =
    let there = away refl in (omega arith, kept.head, chooses_goes holds acts known c cells log v ask key kept there.0 there.1)
