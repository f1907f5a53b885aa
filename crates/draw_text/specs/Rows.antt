-- The lines of a frame's rows. The format is this project's own choice.
use Rattle.std.specs.Prelude.{ℕ, if◌then◌else◌, List, [], ◌++◌, codes, decimal}
use Rattle.model_jobs.specs.Texts.{ended, number_field}
use Rattle.draw_picture.specs.declared.frame.Counts.{Counts}
use Rattle.draw_picture.specs.declared.frame.Home.{Home}
use Rattle.draw_picture.specs.declared.frame.Member.{Member}
use Rattle.draw_picture.specs.declared.frame.MeshProgress.{MeshProgress}
use Rattle.draw_picture.specs.declared.frame.MeshProgress.TheVariants.{Steps, Moves}
use Rattle.draw_picture.specs.declared.frame.Object.{Object}
use Rattle.draw_picture.specs.declared.frame.RunningMesh.{RunningMesh}
use Rattle.mesh_pagemap.specs.declared.mapping.Mapping.{Mapping}
use Rattle.mesh_running.specs.declared.progress.Progress.{Progress}
use Rattle.mesh_running.specs.declared.progress.Progress.TheVariants.{Made, Unwinding}

-- a member of a group: the group, its class, and the member's first virtual page
abbrev pub member_line : Member → List ℕ
member_line m = ended (codes "  group" ++ number_field m.group ++ codes " class" ++ number_field m.class ++ codes " span" ++ number_field m.first)

-- a virtual page: its physical page, and whether stores are blocked
abbrev pub lead_line : Mapping → List ℕ
lead_line m =
    ended (codes "  page" ++ number_field m.virtual_page ++ codes " at" ++ number_field m.physical_page ++ (if m.read_only then codes " read-only" else []))

-- a live object: its serial number, the first virtual page of its member, its slot, and its length in bytes
abbrev pub object_line : Object → List ℕ
object_line o =
    ended (codes "  object" ++ number_field o.serial ++ codes " span" ++ number_field o.member ++ codes " slot" ++ number_field o.slot ++ codes " length"
    ++ number_field o.len)

-- a physical page of a group, and whether a mesh has returned it
abbrev pub home_line : Home → List ℕ
home_line h = ended (codes "  physical" ++ number_field h.page ++ codes " group" ++ number_field h.group ++ (if h.taken then [] else codes " released"))

-- the progress of a mesh: the steps that it has made or, of a cancelled mesh, the pages that it had protected and those
-- that are writable again
abbrev pub progress_text : Progress → List ℕ
progress_text (Made d) = codes " steps" ++ number_field d
progress_text (Unwinding q u) = codes " cancelled protected" ++ number_field q ++ codes " unprotected" ++ number_field u

-- the progress of a mesh by any list of steps
abbrev pub mesh_progress_text : MeshProgress → List ℕ
mesh_progress_text (Steps progress) = progress_text progress
mesh_progress_text (Moves made copied) = codes " moves" ++ number_field made

-- a running mesh: its groups, its class, and its progress
abbrev pub mesh_line : RunningMesh → List ℕ
mesh_line m =
    ended (codes "  mesh" ++ number_field m.source ++ codes ":" ++ decimal m.destination ++ codes " class" ++ number_field m.class ++ mesh_progress_text m.progress)

-- the counts of pages
abbrev pub counts_line : Counts → List ℕ
counts_line c = ended (codes "  pages mapped" ++ number_field c.mapped ++ codes " taken" ++ number_field c.taken ++ codes " saved" ++ number_field c.saved)
