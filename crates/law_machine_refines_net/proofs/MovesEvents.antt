-- Each event follows, in all graphs.
use Rattle.std.proofs.Common.{◌≡◌, ℕ, Bool, true, false, refl, if◌then◌else◌}
use Rattle.law_net.specs.ContextsParts.{Part, Line, InCell}
use Rattle.law_net.specs.ContextsBlocks.{is_cell, is_store}
use Rattle.law_net.specs.Contexts.{block_in}
use Rattle.law_net.specs.ContextsPackages.{Inwards, Outwards, Asking, OfCells, OfCredits, doing_of, EventsFollowBy}
use Rattle.law_machine_refines_net.specs.MovesCases.{Taking, Followed}
use Rattle.law_machine_refines_net.specs.Moves.{EventsFollow}
use Rattle.law_machine_refines_net.proofs.SendsInwards.{inwards_follow}
use Rattle.law_machine_refines_net.proofs.Outwards.{outwards_follow}
use Rattle.law_machine_refines_net.proofs.FramesAsking.{all_asking_follow}
use Rattle.law_machine_refines_net.proofs.Credits.{credits_follow}
use Rattle.law_machine_refines_net.proofs.CellsFetched.{fetch_follows}
use Rattle.law_machine_refines_net.proofs.CellsStored.{store_follows}
use Rattle.law_machine_refines_net.proofs.Cells.{line_asks}

-- a line is of a cell or not
line_cell : (t : Bool) → (if t then OfCells else Inwards) ≡ OfCells → t ≡ true
line_cell true e = refl
line_cell false e = absurd (cc)

-- OF CELLS
module _ (s : Taking) where
  of_request : (n : ℕ) → s.i.inlet.part ≡ InCell n → Followed s
  of_request n e = by_kind (is_store (block_in s.fl s.i.context) n) refl
    where
      by_kind : (t : Bool) → is_store (block_in s.fl s.i.context) n ≡ t → Followed s
      by_kind true k = store_follows s n e k
      by_kind false k = fetch_follows s n e k

  of_cells : (r : Part) → s.i.inlet.part ≡ r → doing_of s.fl s.i.context r ≡ OfCells → Followed s
  of_cells (Line n) e d = line_asks s n e (line_cell (is_cell (block_in s.fl s.i.context) n) d)
  of_cells (InCell n) e d = of_request n e
  of_cells r e d = absurd (cc)

pub of_cells_follow : EventsFollowBy OfCells
of_cells_follow fl p w inputs z q m new e t good k ev fresh i others perm is_token doing =
    of_cells
    (record {
      fl = fl;
      p = p;
      w = w;
      inputs = inputs;
      z = z;
      q = q;
      m = m;
      new = new;
      e = e;
      t = t;
      good = good;
      keeps = k;
      event = ev;
      fresh = fresh;
      i = i;
      others = others;
      perm = perm;
      is_token = is_token;
    }) i.inlet.part refl doing

-- ALL EVENTS
pub events_follow : EventsFollow
events_follow Inwards = inwards_follow
events_follow Outwards = outwards_follow
events_follow Asking = all_asking_follow
events_follow OfCells = of_cells_follow
events_follow OfCredits = credits_follow
