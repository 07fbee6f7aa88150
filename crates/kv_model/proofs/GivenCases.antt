-- What a watch is given by small lists of acts, by computation.
use Rattle.std.proofs.Common.{◌≡◌, ℕ, true, false, List, [], ◌∷◌, Some, None, map, refl}
use Rattle.std.specs.Prelude.{codes}
use Rattle.kv_keys.specs.Matching.{matches}
use Rattle.kv_model.specs.declared.write.Op.{Op}
use Rattle.kv_model.specs.declared.write.Op.TheVariants.{Put, Delete, Purge}
use Rattle.kv_model.specs.Acts.{Act, Wrote, Seal, Write}
use Rattle.kv_model.specs.declared.event.Event.TheVariants.{Entry, Marker}
use Rattle.kv_model.specs.declared.options.Options.{Options}
use Rattle.kv_model.specs.declared.options.Start.{Start}
use Rattle.kv_model.specs.declared.options.Start.TheVariants.{Latest, History, Updates, From}
use Rattle.kv_model.specs.Given.{entry_of, given}
use Rattle.kv_model.specs.further.Events.{event_of}

-- a write whose value is its key
abbrev write : List ℕ → Op → ℕ → Write
write key op revision = record { key = key; op = op; value = key; revision = revision }

abbrev act : List ℕ → Op → ℕ → Act
act key op revision = Wrote (write key op revision)

abbrev from : Start → Options
from start = record { start = start; ignore_deletes = false; headers_only = false }

abbrev all : List (List ℕ)
all = codes ">" ∷ []

-- b, a, b
abbrev one_put : List Act
one_put = act (codes "b") Put 1 ∷ []

abbrev three_puts : List Act
three_puts = act (codes "b") Put 1 ∷ act (codes "a") Put 2 ∷ act (codes "b") Put 3 ∷ []

initial_by_revision : map event_of (given 1 three_puts three_puts all (from Latest)) ≡ Entry 2 ∷ Entry 3 ∷ Marker ∷ []
unfolding matches
initial_by_revision = refl

initial_and_live : map event_of (given 1 one_put three_puts all (from Latest)) ≡ Entry 1 ∷ Marker ∷ Entry 2 ∷ Entry 3 ∷ []
unfolding matches
initial_and_live = refl

nothing : map event_of (given 1 [] [] all (from Latest)) ≡ Marker ∷ []
unfolding matches
nothing = refl

-- the same key three times, of which two entries are kept
abbrev one_key : List Act
one_key = act (codes "k") Put 1 ∷ act (codes "k") Put 2 ∷ act (codes "k") Put 3 ∷ []

history_of_two : map event_of (given 2 one_key one_key all (from History)) ≡ Entry 2 ∷ Entry 3 ∷ Marker ∷ []
unfolding matches
history_of_two = refl

from_the_first : map event_of (given 2 one_key one_key all (from (From 0))) ≡ Entry 2 ∷ Entry 3 ∷ Marker ∷ []
unfolding matches
from_the_first = refl

from_the_third : map event_of (given 2 one_key one_key all (from (From 3))) ≡ Entry 3 ∷ Marker ∷ []
unfolding matches
from_the_third = refl

-- later writes come even where the start is above them
from_above_the_last : map event_of (given 1 [] one_put all (from (From 9))) ≡ Marker ∷ Entry 1 ∷ []
unfolding matches
from_above_the_last = refl

updates_only : map event_of (given 1 one_put three_puts all (from Updates)) ≡ Entry 2 ∷ Entry 3 ∷ []
unfolding matches
updates_only = refl

-- a seal is no write
sealed : map event_of (given 1 one_put (act (codes "b") Put 1 ∷ Seal ∷ []) all (from Latest)) ≡ Entry 1 ∷ Marker ∷ []
unfolding matches
sealed = refl

-- a put and its delete: where deletes are ignored, the put takes no place of the delete
abbrev deleted : List Act
deleted = act (codes "k") Put 1 ∷ act (codes "k") Delete 2 ∷ []

no_deletes : map event_of (given 2 deleted deleted all (record { start = Latest; ignore_deletes = true; headers_only = false })) ≡ Marker ∷ []
unfolding matches
no_deletes = refl

delete_is_given : map event_of (given 2 deleted deleted all (from Latest)) ≡ Entry 2 ∷ Marker ∷ []
unfolding matches
delete_is_given = refl

-- a purge removes what is kept before it, and is kept itself
since_a_purge : let acts = act (codes "k") Put 1 ∷ act (codes "k") Purge 2 ∷ act (codes "k") Put 3 ∷ [] in
    map event_of (given 64 acts acts all (from History)) ≡ Entry 2 ∷ Entry 3 ∷ Marker ∷ []
unfolding matches
since_a_purge = refl

-- both filters match the one, and neither the other
two_filters : let acts = act (codes "a.b") Put 1 ∷ act (codes "c") Put 2 ∷ [] in
    map event_of (given 1 acts acts (codes "a.*" ∷ codes "*.b" ∷ []) (from Latest)) ≡ Entry 1 ∷ Marker ∷ []
unfolding matches
two_filters = refl

-- headers only show the size, and no value; a marker has none
with_value : entry_of false (write (codes "ab") Put 1) ≡ record { key = codes "ab"; op = Put; revision = 1; size = 2; value = Some (codes "ab") }
with_value = refl

without_value : entry_of true (write (codes "ab") Put 1) ≡ record { key = codes "ab"; op = Put; revision = 1; size = 2; value = None }
without_value = refl

of_a_marker : entry_of false (record { key = codes "ab"; op = Delete; value = []; revision = 2 }) ≡ record { key = codes "ab"; op = Delete; revision = 2; size = 0; value = None }
of_a_marker = refl
