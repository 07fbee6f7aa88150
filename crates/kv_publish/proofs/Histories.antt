-- Histories in one log.
use Rattle.std.proofs.Common.{◌≡◌, ℕ, ◌==◌, Bool, true, false, List, [], ◌∷◌, ◌++◌, refl, ap, sym, ◌∙◌, subst, arith}
use Rattle.std.proofs.lemmas.Bool.Decides.{nat_tests}
use Rattle.logbook.specs.Pages.{Cell, cell}
use Rattle.kv_model.specs.Acts.{IsPrefix}
use Rattle.kv_publish.specs.declared.entry.Entry.{Entry}
use Rattle.kv_publish.specs.Rules.{Came, history_from, right_behind, whether}
use Rattle.kv_publish.proofs.Prefixes.{prefix_trans}

-- ---- a log that goes on

pub right_more : (right : ℕ) (log : List Entry) (e : Entry) → right_behind right (log ++ e ∷ []) ≡ e.next
right_more right [] e = refl
right_more right (x ∷ log) e = right_more x.next log e

one_more : (b : Bool) (right : ℕ) (x : Entry) (xs ys : List Entry)
    → history_from x.next (xs ++ ys) ≡ history_from x.next xs ++ history_from (right_behind x.next (history_from x.next xs)) ys
    → history_from right (xs ++ ys) ≡ history_from right xs ++ history_from (right_behind right (history_from right xs)) ys
    → whether b (x ∷ history_from x.next (xs ++ ys)) (history_from right (xs ++ ys))
    ≡ whether b (x ∷ history_from x.next xs) (history_from right xs) ++ history_from (right_behind right (whether b (x ∷ history_from x.next xs) (history_from right xs))) ys
one_more true right x xs ys mine other = ap (λ (l : List Entry). x ∷ l) mine
one_more false right x xs ys mine other = other

-- a history goes on in what is added to a log by the right behind it
pub history_more : (right : ℕ) (xs ys : List Entry) → history_from right (xs ++ ys) ≡ history_from right xs ++ history_from (right_behind right (history_from right xs)) ys
history_more right [] ys = refl
history_more right (x ∷ xs) ys = one_more (x.right == right) right x xs ys (history_more x.next xs ys) (history_more right xs ys)

pub history_prefix : (right : ℕ) (xs ys : List Entry) → IsPrefix xs ys → IsPrefix (history_from right xs) (history_from right ys)
history_prefix right xs ys p =
    (history_from (right_behind right (history_from right xs)) p.0, sym (history_more right xs p.0) ∙ ap (history_from right) p.1)

by_its_right : (b : Bool) (e : Entry) → (e.right == e.right) ≡ b → whether b (e ∷ []) [] ≡ e ∷ []
by_its_right true e is = refl
by_its_right false e is = absurd (grind (arith, nat_tests))

-- an entry that is added by the right behind a history is the next one of it
pub history_last : (right : ℕ) (log : List Entry) (e : Entry) → e.right ≡ right_behind right (history_from right log) → history_from right (log ++ e ∷ []) ≡ history_from right log ++ e ∷ []
history_last right log e is =
    history_more right log (e ∷ [])
    ∙ (ap (λ k. history_from right log ++ history_from k (e ∷ [])) (sym is) ∙ ap (λ (l : List Entry). history_from right log ++ l) (by_its_right (e.right == e.right) e refl))

-- ---- rights that were used

-- each of these entries was added by the right that the one before it names
abbrev Chain : List Cell → ℕ → List Entry → Type 0
Chain cells right [] = Unit {0}
Chain cells right (e ∷ log) = ((cell cells right).1 ≡ true) × Chain cells e.next log

chain_one : (cells : List Cell) (right : ℕ) (b : Bool) (e : Entry) (log : List Entry) → (e.right == right) ≡ b → (cell cells e.right).1 ≡ true → Chain cells e.next (history_from e.next log) → Chain cells right (history_from right log)
    → Chain cells right (whether b (e ∷ history_from e.next log) (history_from right log))
chain_one cells right true e log is home mine other = let same : e.right ≡ right = grind (arith, nat_tests) in (subst (λ (k : ℕ). (cell cells k).1 ≡ true) same home, mine)
chain_one cells right false e log is home mine other = other

chain : (cells : List Cell) (right : ℕ) (log : List Entry) → Came cells log → Chain cells right (history_from right log)
chain cells right [] came = tt
chain cells right (e ∷ log) came = chain_one cells right (e.right == right) e log refl came.0 (chain cells e.next log came.1) (chain cells right log came.1)

all_of : (cells : List Cell) (right : ℕ) (v log : List Entry) → IsPrefix v log → Chain cells right log → (cell cells (right_behind right v)).1 ≡ false → log ≡ v
all_of cells right [] [] p came away = refl
all_of cells right [] (e ∷ log) p came away = absurd (cc (came.0, away))
all_of cells right (x ∷ v) [] p came away = absurd (cc (p.1))
all_of cells right (x ∷ v) (y ∷ log) p came away =
    let heads : x ≡ y = cc (p.1) in
    let came' : Chain cells x.next log = subst (λ (e : Entry). Chain cells e.next log) (sym heads) came.1 in
    let rest : log ≡ v = all_of cells x.next v log (p.0, cc (p.1)) came' away in cc (heads, rest)

-- while the cell of the right to add an entry behind these is away, they are all that the history has
pub all_seen : (cells : List Cell) (right : ℕ) (all v log : List Entry) → Came cells log → IsPrefix v log → IsPrefix all (history_from right v) → (cell cells (right_behind right all)).1 ≡ false → history_from right log ≡ all
all_seen cells right all v log came pre p away =
    all_of cells right all (history_from right log) (prefix_trans all (history_from right v) (history_from right log) p (history_prefix right v log pre)) (chain cells right log came) away

-- a right whose cell is away begins a history without entries
pub unused : (cells : List Cell) (right : ℕ) (log : List Entry) → Came cells log → (cell cells right).1 ≡ false → history_from right log ≡ []
unused cells right log came away = all_of cells right [] (history_from right log) (history_from right log, refl) (chain cells right log came) away
