-- A run of calls, and what it hands to each watch.
use Rattle.std.specs.Prelude.{ℕ, List, [], ◌∷◌, ◌++◌, Option, Some, None, ◌==◌, if◌then◌else◌, map}
use Rattle.std.specs.Option.{option_to_list}
use Rattle.kv_model.specs.Given.{Item, AnEntry, EndMarker}
use Rattle.kv_model.specs.declared.call.Call.{Call}
use Rattle.kv_model.specs.declared.call.Call.TheVariants as calls
use Rattle.kv_model.specs.Answers.{Answer, AnsweredEntry, Marker}
use Rattle.kv_model.specs.State.{State, after, answer_to}

-- the state after a run: each call from the state that the ones before it left
abbrev pub run : State → List Call → State
run s [] = s
run s (call ∷ calls) = run (after s call) calls

-- its answers
abbrev pub answers_to : State → List Call → List Answer
answers_to s [] = []
answers_to s (call ∷ calls) = answer_to s call ∷ answers_to (after s call) calls

-- the item that an answer hands out
abbrev pub item_in : Answer → Option Item
item_in (AnsweredEntry entry) = Some (AnEntry entry)
item_in Marker = Some EndMarker
item_in answer = None

-- the item that the answer to a call hands to the watch of a number
abbrev pub item_for : ℕ → Call → Answer → Option Item
item_for number (calls.Take asked) answer = if asked == number then item_in answer else None
item_for number call answer = None

-- a call, and its answer
pub record Exchange : Type 0 where
  pub call : Call
  pub answer : Answer

-- calls, each with its answer
abbrev pub exchanges : List Call → List Answer → List Exchange
exchanges [] answers = []
exchanges (call ∷ calls) [] = []
exchanges (call ∷ calls) (answer ∷ answers) = record { call = call; answer = answer } ∷ exchanges calls answers

-- the calls of exchanges
abbrev pub calls_of : List Exchange → List Call
calls_of told = map (λ exchange. exchange.call) told

-- the exchanges of a run
abbrev pub transcript : State → List Call → List Exchange
transcript s calls = exchanges calls (answers_to s calls)

-- the items that exchanges hand to the watch of a number, in order
abbrev pub items_of : ℕ → List Exchange → List Item
items_of number [] = []
items_of number (exchange ∷ told) = option_to_list (item_for number exchange.call exchange.answer) ++ items_of number told

-- the items that a run hands to the watch of a number
abbrev pub items_in : ℕ → State → List Call → List Item
items_in number s calls = items_of number (transcript s calls)
