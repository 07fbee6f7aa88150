-- What a watcher writes down.
use Rattle.std.specs.Prelude.{◌≡◌, ◌<◌, ℕ, List, [], ◌∷◌, ◌++◌, Option, Some, None, map}
use Rattle.kv_model.specs.Acts.{Act}
use Rattle.kv_model.specs.Configuration.{Configuration}
use Rattle.kv_model.specs.declared.options.Options.{Options}
use Rattle.kv_model.specs.Given.{Item}
use Rattle.kv_single.specs.Replies.{answer_of}
use Rattle.kv_model.specs.Answers.{Answer, answer_item}
use Rattle.kv_single.specs.declared.reply.Reply.{Reply}

-- what is watched: the configuration of the bucket, the acts when the watch began, the filters, and how entries are shown
pub record Watch : Type 0 where
  pub config : Configuration
  pub began : List Act
  pub filters : List (List ℕ)
  pub options : Options

-- where a watch is: the acts that it went on to, those that it has seen, and those that it was told of
pub record Place : Type 0 where
  pub acts : List Act
  pub seen : List Act
  pub told : List Act

-- an item as a reply has it
abbrev pub reply_to : Item → Answer
reply_to item = answer_item (Some item)

-- the replies are these items, in order
abbrev pub Are : List Reply → List Item → Type 0
Are replies items = map answer_of replies ≡ map reply_to items

-- what was written down are all items that were handed out, if it was so before
abbrev pub WritesDown : List Item → List Reply → List Item → List Reply → Type 0
WritesDown handed_before seen_before handed_after seen_after = Are seen_before handed_before →
    Are seen_after handed_after

-- one more item was handed out, and its copy is the reply; without one nothing was handed out, and nothing is left
abbrev pub HandsOut : List Item → ℕ → Option Reply → List Item → ℕ → Type 0
HandsOut before left_before None after left_after = (after ≡ before) × (left_after ≡ 0)
HandsOut before left_before (Some reply) after left_after = (left_after < left_before)
    × ((item : Item) × ((answer_of reply ≡ reply_to item) × (after ≡ before ++ item ∷ [])))
