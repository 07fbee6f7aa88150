-- The script of what a bucket stores. No script leads to the acts in whose place a checkpoint stands; this one leads to the stored
-- writes, with revisions from 1 on.
use Rattle.std.specs.Prelude.{◌≡◌, ℕ, ◌+◌, Bool, List, [], ◌∷◌, ◌++◌, map, codes, if◌then◌else◌}
use Rattle.kv_model.specs.Acts.{Act, Wrote, Seal, Write, is_sealed}
use Rattle.kv_model.specs.Compaction.{stored_writes}
use Rattle.kv_durable_script.specs.Dumps.{lines_text, write_line}

-- the command of a stored write, whatever its revision is
abbrev pub stored_line : Write → List ℕ
stored_line w = write_line w.op w.key w.value

-- the commands for these stored writes, in this order, and a seal if writes have ended
abbrev pub storing_lines : List Write → Bool → List (List ℕ)
storing_lines ws sealed = map stored_line ws ++ (if sealed then codes "seal" ∷ [] else [])

-- the text for what is stored behind these acts: the stored writes are in the order of their revisions
abbrev pub stored_text : ℕ → List Act → List ℕ
stored_text h acts = lines_text (storing_lines (stored_writes h acts) (is_sealed acts))

-- a write, with this revision in place of its own
abbrev pub at_revision : ℕ → Write → Write
at_revision revision w = record { key = w.key; op = w.op; value = w.value; revision = revision }

-- writes, with the revisions behind this one
abbrev pub renumbered : ℕ → List Write → List Write
renumbered last [] = []
renumbered last (w ∷ ws) = at_revision (last + 1) w ∷ renumbered (last + 1) ws

-- the acts that store anew what is stored behind these: the stored writes, with revisions from 1 on, and a seal if writes have ended
abbrev pub stored_anew : ℕ → List Act → List Act
stored_anew h acts = map (λ w. Wrote w) (renumbered 0 (stored_writes h acts)) ++ (if is_sealed acts then Seal ∷ [] else [])

-- these are the same writes but for their revisions, in the same order
abbrev pub AreSameButRevisions : List Write → List Write → Type 0
AreSameButRevisions xs ys = map (at_revision 0) xs ≡ map (at_revision 0) ys
