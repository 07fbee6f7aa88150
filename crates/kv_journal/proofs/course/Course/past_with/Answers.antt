-- Whether the last compaction is past with the next write, or that no acts lead to it.
use Rattle.std.proofs.Common.{◌≡◌, ◌<◌, Bool, true, ◌||◌, sym, ap, ◌∙◌}
use Rattle.kv_model.specs.Acts.{Write}
use Rattle.kv_model.specs.Requests.{asked, write_for}
use Rattle.kv_journal.proofs.GoingOn.{follows_it, goes_on, last_there, loses_next, never_lost, never_past, never_room, revisions_rise, room_for}
use Rattle.kv_journal.proofs.course.Course.past_with.Goals as goal
use Rattle.kv_journal.proofs.course.Course.past_with.Goals.{else-loses-via-then-loses+else-revision-self, else-loses-via-else-loses, then-self, else-self, then-past-via-then-past, then-past-via-else-past+then-not-had_room}

pub returns-then-revision-self : goal.returns-then-revision-self
returns-then-revision-self c = λ ws more last count i r.
    never_lost ws more last count c.args.self.now (write_for (asked c.args.request.now) c.args.revision) i c.requires.later (sym c.loses-loses.ensures ∙ c.if-loses.true) c.if-revision-self.true r

pub had_room-requires : goal.had_room-requires
had_room-requires c = revisions_rise c.requires.course.0 c.args.self.now c.requires.course.1

pub returns-in_default : goal.returns-in_default
returns-in_default c = λ ws i.
    let course = c.args.self.now in
    let w = write_for (asked c.args.request.now) c.args.revision in
    let is : (course.past || loses_next course w) ≡ c.if-self.past =
    elim c.if-self.branch [ then-self v ↦ ap (λ (b : Bool). b || loses_next course w) v.if-self.true ∙ sym v.if-self.true ∙ sym v.past-is | else-self v ↦ ap (λ (b : Bool). b || loses_next course w) v.if-self.false ∙ sym c.loses-loses.ensures ∙ sym v.past-is ] in
    let above : loses_next course w ≡ true → course.floor < w.revision = λ t.
    elim c.else-loses.branch [ else-loses-via-then-loses+else-revision-self v ↦ v.if-revision-self.false | else-loses-via-else-loses v ↦ absurd (cc (t, v.if-loses.false, c.loses-loses.ensures)) ] in
    goes_on ws course w c.if-self.past i c.requires.later is above
    (λ m f. absurd (c.in_default.ensures m (last_there ws course c.key.result.now w m i c.key.ensures f) f.1 f.2))
    (λ m f e. c.in_default.ensures m (last_there ws course c.key.result.now w m i c.key.ensures f) f.1 f.2)

pub returns-then-past : goal.returns-then-past
returns-then-past c = λ ws more last count i r.
    let course = c.args.self.now in
    let w = write_for (asked c.args.request.now) c.args.revision in
    let m = c.in-Some.ensures in
    let follows = follows_it ws course c.key.result.now w m.0 i c.key.ensures m.1 m.2 m.3 in
    let is : (course.past || loses_next course w) ≡ c.if-self.past =
    elim c.if-self.branch [ then-self v ↦ ap (λ (b : Bool). b || loses_next course w) v.if-self.true ∙ sym v.if-self.true ∙ sym v.past-is | else-self v ↦ ap (λ (b : Bool). b || loses_next course w) v.if-self.false ∙ sym c.loses-loses.ensures ∙ sym v.past-is ] in
    elim c.then-past.branch [
      | then-past-via-then-past v ↦ never_past ws more last count course w m.0 i c.requires.later follows (is ∙ v.if-past.true) r
      | then-past-via-else-past+then-not-had_room v ↦ never_room ws more last count course w m.0 c.in-Some.marker i follows m.4 (sym v.had_room.ensures ∙ v.if-not-had_room.true) r
    ]

pub returns : goal.returns
returns c = λ ws i.
    let course = c.args.self.now in
    let w = write_for (asked c.args.request.now) c.args.revision in
    let m = c.in-Some.ensures in
    let is : (course.past || loses_next course w) ≡ c.if-self.past =
    elim c.if-self.branch [ then-self v ↦ ap (λ (b : Bool). b || loses_next course w) v.if-self.true ∙ sym v.if-self.true ∙ sym v.past-is | else-self v ↦ ap (λ (b : Bool). b || loses_next course w) v.if-self.false ∙ sym c.loses-loses.ensures ∙ sym v.past-is ] in
    let above : loses_next course w ≡ true → course.floor < w.revision = λ t.
    elim c.else-loses.branch [ else-loses-via-then-loses+else-revision-self v ↦ v.if-revision-self.false | else-loses-via-else-loses v ↦ absurd (cc (t, v.if-loses.false, c.loses-loses.ensures)) ] in
    goes_on ws course w c.if-self.past i c.requires.later is above
    (λ u f.
    let same : u ≡ m.0 = cc (last_there ws course c.key.result.now w u i c.key.ensures f, m.1) in
    let at : u.revision ≡ c.in-Some.marker = ap (λ (x : Write). x.revision) same ∙ m.4 in
    room_for ws course w u c.in-Some.marker i at (sym c.had_room.ensures ∙ c.if-not-had_room.false))
    (λ u f e. cc (e, c.if-past.false))
