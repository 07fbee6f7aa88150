-- The steps of a log of histories keep its rule.
use Rattle.std.proofs.Common.{◌≡◌, ℕ, zero, suc, ◌<◌, ◌==◌, true, false, List, [], ◌∷◌, ◌++◌, length, refl, ap, sym, ◌∙◌, subst, arith, inl, set, None}
use Rattle.std.proofs.lemmas.List.{append-nil}
use prog.Atomic.{either}
use Rattle.logbook.specs.Pages.{Cell, Nib, cell, nib, no_nib, may_write, keeps, gives, adds, step, Moves, Goes}
use Rattle.kv_model.specs.Acts.{IsPrefix}
use Rattle.kv_publish.specs.declared.entry.Entry.{Entry}
use Rattle.kv_publish.specs.Rules.{IsKept, Came, Making, Adding, Looking, history_from, right_behind}
use Rattle.kv_publish.proofs.Histories.{all_seen, history_last, unused}
use Rattle.kv_publish.proofs.Prefixes.{prefix_self}

abbrev pub shown : List Entry → List Entry
shown log = []

abbrev pub moved : Entry → List Entry → List Entry → ℕ → Type 0
moved ask xs ys n = Unit {0}

-- ---- cells that are at home stay there

abbrev pub StayHome : List Cell → List Cell → Type 0
StayHome before after = (k : ℕ) → (cell before k).1 ≡ true → (cell after k).1 ≡ true

pub stay_set : (cells : List Cell) (k n : ℕ) → StayHome cells (set cells k (n, true))
stay_set [] k n j home = home
stay_set (c ∷ cells) zero n zero home = refl
stay_set (c ∷ cells) zero n (suc j) home = home
stay_set (c ∷ cells) (suc k) n zero home = home
stay_set (c ∷ cells) (suc k) n (suc j) home = stay_set cells k n j home

stay_behind : (cells : List Cell) (c : Cell) → StayHome cells (cells ++ c ∷ [])
stay_behind [] c j home = absurd (cc home)
stay_behind (x ∷ cells) c zero home = home
stay_behind (x ∷ cells) c (suc j) home = stay_behind cells c j home

pub home_set : (cells : List Cell) (k n : ℕ) → k < length cells → (cell (set cells k (n, true)) k).1 ≡ true
home_set [] k n l = absurd (omega arith)
home_set (c ∷ cells) zero n l = refl
home_set (c ∷ cells) (suc k) n l = home_set cells k n (omega arith)

away_behind : (cells : List Cell) → (cell cells (length cells)).1 ≡ false
away_behind [] = refl
away_behind (c ∷ cells) = away_behind cells

pub came_still : (before after : List Cell) (log : List Entry) → StayHome before after → Came before log → Came after log
came_still before after [] stay came = tt
came_still before after (e ∷ log) stay came = (stay e.right came.0, came_still before after log stay came.1)

came_more : (cells : List Cell) (log : List Entry) (e : Entry) → Came cells log → (cell cells e.right).1 ≡ true → Came cells (log ++ e ∷ [])
came_more cells [] e came home = (home, tt)
came_more cells (x ∷ log) e came home = (came.0, came_more cells log e came.1 home)

-- ---- the steps

pub no_cells : (log : List Entry) → IsKept [] log → ⊥
no_cells log kept = cc (kept.head)

makes_goes : (c : Cell) (cells : List Cell) (log v : List Entry) (ask : Entry) → IsKept (c ∷ cells) log
    → Goes IsKept shown (moved ask) 0 (v, (no_nib, None)) (λ n. either (n == 0) 0 n) (Making (step 0 0 0 ask) (v, (no_nib, None))) (c ∷ cells) log
makes_goes c cells log v ask kept =
    let n : ℕ = either (c.0 == 0) 0 c.0 in
    let after : List Cell = ((n, true) ∷ cells) ++ (0, false) ∷ [] in
    let stay : StayHome (c ∷ cells) after = λ k home. stay_behind ((n, true) ∷ cells) (0, false) k (stay_set (c ∷ cells) 0 n k home) in
    let none : log ++ [] ≡ log = append-nil log in (
      adds,
      [],
      None,
      tt,
      record { head = refl; came = subst (Came after) (sym none) (came_still (c ∷ cells) after log stay kept.came) },
      inl (refl, refl),
      (length (c ∷ cells), (refl, ap (history_from (length (c ∷ cells))) none ∙ unused (c ∷ cells) (length (c ∷ cells)) log kept.came (away_behind (c ∷ cells)))),
    )

-- whatever the log is, a right can be made
pub makes_moves : (v : List Entry) (ask : Entry) → Moves IsKept shown (moved ask) 0 (v, (no_nib, None)) (λ n. either (n == 0) 0 n) (Making (step 0 0 0 ask) (v, (no_nib, None)))
makes_moves v ask [] log kept pre away = absurd (no_cells log kept)
makes_moves v ask (c ∷ cells) log kept pre away = (omega arith, kept.head, makes_goes c cells log v ask kept)

adds_goes : (c : Cell) (cells : List Cell) (log v : List Entry) (ask : Entry) (key : ℕ) → IsKept (c ∷ cells) log → IsPrefix v log → key ≡ ask.right → key < length (c ∷ cells) → (cell (c ∷ cells) key).1 ≡ false
    → Goes IsKept shown (moved ask) 0 (v, (nib may_write key 0, None)) (λ n. either (n == 0) 0 n) (Adding (step 0 0 0 ask) (v, (nib may_write key 0, None))) (c ∷ cells) log
adds_goes c cells log v ask zero kept pre is within away = absurd (cc (kept.head, away))
adds_goes c cells log v ask (suc j) kept pre is within away =
    let n : ℕ = either (c.0 == 0) 0 c.0 in
    let one : List Cell = (n, true) ∷ cells in
    let after : List Cell = set one (suc j) (0, true) in
    let stay : StayHome (c ∷ cells) after = λ k home. stay_set one (suc j) 0 k (stay_set (c ∷ cells) 0 n k home) in
    let came : (cell after (suc j)).1 ≡ true = home_set one (suc j) 0 within in (
      gives,
      ask ∷ [],
      None,
      refl,
      record {
        head = refl;
        came = came_more after log ask (came_still (c ∷ cells) after log stay kept.came) (subst (λ (k : ℕ). (cell after k).1 ≡ true) is came);
      },
      inl (refl, refl),
      (λ first here.
          let all : history_from first log ≡ history_from first v = all_seen (c ∷ cells) first (history_from first v) v log kept.came pre (prefix_self (history_from first v))
          (subst (λ (k : ℕ). (cell (c ∷ cells) k).1 ≡ false) (is ∙ here) away) in
          history_last first log ask (here ∙ ap (right_behind first) (sym all)) ∙ ap (λ (l : List Entry). l ++ ask ∷ []) all),
    )

-- whatever the log is, who has the right to add an entry behind what was seen of a history adds it to just that
pub adds_moves : (v : List Entry) (ask : Entry) → Moves IsKept shown (moved ask) 0 (v, (nib may_write ask.right 0, None)) (λ n. either (n == 0) 0 n) (Adding (step 0 0 0 ask) (v, (nib may_write ask.right 0, None)))
adds_moves v ask [] log kept pre away = absurd (no_cells log kept)
adds_moves v ask (c ∷ cells) log kept pre away =
    let there = away refl in (omega arith, kept.head, adds_goes c cells log v ask ask.right kept pre refl there.0 there.1)

looks_goes : (c : Cell) (cells : List Cell) (log v : List Entry) (ask : Entry) (p : Nib) → IsKept (c ∷ cells) log → IsPrefix v log → (p.right ≡ may_write → (p.key < length (c ∷ cells)) × ((cell (c ∷ cells) p.key).1 ≡ false))
    → Goes IsKept shown (moved ask) 0 (v, (p, None)) (λ n. either (n == 0) 0 n) (Looking (step 0 0 0 ask) (v, (p, None))) (c ∷ cells) log
looks_goes c cells log v ask p kept pre away =
    let n : ℕ = either (c.0 == 0) 0 c.0 in
    let none : log ++ [] ≡ log = append-nil log in (
      keeps,
      [],
      None,
      tt,
      record {
        head = refl;
        came = subst (Came ((n, true) ∷ cells)) (sym none) (came_still (c ∷ cells) ((n, true) ∷ cells) log (stay_set (c ∷ cells) 0 n) kept.came);
      },
      inl (refl, refl),
      (
        refl,
        λ first all prefix is. ap (history_from first) none ∙ all_seen (c ∷ cells) first all v log kept.came pre prefix
            (subst (λ (k : ℕ). (cell (c ∷ cells) k).1 ≡ false) (ap (λ (q : Nib). q.key) is) (away (ap (λ (q : Nib). q.right) is)).1),
      ),
    )

-- whatever the log is, who has the right to add to what was seen of a history learns that it is all
pub looks_moves : (v : List Entry) (ask : Entry) (p : Nib) → Moves IsKept shown (moved ask) 0 (v, (p, None)) (λ n. either (n == 0) 0 n) (Looking (step 0 0 0 ask) (v, (p, None)))
looks_moves v ask p [] log kept pre away = absurd (no_cells log kept)
looks_moves v ask p (c ∷ cells) log kept pre away = (omega arith, kept.head, looks_goes c cells log v ask p kept pre away)
