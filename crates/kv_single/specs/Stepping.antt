-- What a call makes of a bucket: one step of the model, from every state that it represents.
use Rattle.std.specs.Prelude.{◌≡◌, List, [], ◌∷◌, ◌++◌, map}
use Rattle.kv_model.specs.declared.call.Call.{Call}
use Rattle.kv_single.specs.declared.reply.Reply.{Reply}
use Rattle.kv_single.specs.Replies.{answer_of}
use Rattle.kv_model.specs.Answers.{Answer}
use Rattle.kv_single.specs.Held.{Bucketed, Represents}
use Rattle.kv_model.specs.Runs.{Exchange, run, answers_to}
use Rattle.kv_model.specs.State.{State, after, answer_to}

-- the bucket answered as the model does, and represents the state that the model comes to
abbrev pub IsStep : Bucketed → Call → Answer → Bucketed → Type 0
IsStep old call answer new = (state : State) → Represents state old → (answer ≡ answer_to state call) ×
    Represents (after state call) new

-- the same for calls in a row: replies were added with the model's answers
abbrev pub IsRun : Bucketed → List Call → List Reply → List Reply → Bucketed → Type 0
IsRun old calls before replies new = (added : List Reply) × (replies ≡ before ++ added)
    × ((state : State) → Represents state old → (map answer_of added ≡ answers_to state calls) ×
    Represents (run state calls) new)

-- steps in a row, whoever makes them: each call with its answer
abbrev pub AreSteps : Bucketed → List Exchange → Bucketed → Type 0
AreSteps old [] new = new ≡ old
AreSteps old (exchange ∷ told) new = (next : Bucketed) × IsStep old exchange.call exchange.answer next ×
    AreSteps next told new
