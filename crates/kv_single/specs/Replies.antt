-- A reply without where it lies in memory.
use Rattle.kv_single.specs.declared.reply.Reply.{Reply}
use Rattle.kv_single.specs.declared.reply.Reply.TheVariants as replies
use Rattle.kv_model.specs.Answers.{Answer, Revision, Sealed, AnsweredEntry, Entries, Keys, Numbers, Watching, Marker, Empty, Ended, Compacted, Refused}

-- a reply as an answer
abbrev pub answer_of : Reply → Answer
answer_of (replies.Revision revision) = Revision revision
answer_of replies.Sealed = Sealed
answer_of (replies.Entry seen) = AnsweredEntry seen
answer_of (replies.Entries seen) = Entries seen.items
answer_of (replies.Keys keys) = Keys keys.items
answer_of (replies.Status status watches) = Numbers status watches
answer_of (replies.Watch number) = Watching number
answer_of replies.Marker = Marker
answer_of replies.Empty = Empty
answer_of (replies.Stopped stopped) = Ended stopped.handed
answer_of (replies.Compacted floor) = Compacted floor
answer_of (replies.Refused error) = Refused error
