-- The page that shows a run: its own source, with the run's texts and its data in between.
use Rattle.std.specs.Prelude.{ℕ, List, [], ◌++◌, codes, nat_lt, if◌then◌else◌}
use Rattle.html_text.specs.declared.style.TheConstants.{TOP, TO_LISTING, TO_REPORT, TO_DATA}
use Rattle.html_text.specs.declared.model.TheConstants.{MODEL}
use Rattle.html_text.specs.declared.picture.TheConstants.{PICTURE}
use Rattle.html_text.specs.declared.beside.TheConstants.{BESIDE}
use Rattle.html_text.specs.declared.lists.TheConstants.{LISTS}
use Rattle.html_text.specs.declared.page.Part.{Part}
use Rattle.html_text.specs.declared.page.Part.TheVariants.{Top, ToListing, ToReport, ToData, Script}

abbrev pub part_text : Part → List ℕ
part_text Top = TOP.now
part_text ToListing = TO_LISTING.now
part_text ToReport = TO_REPORT.now
part_text ToData = TO_DATA.now
part_text Script = MODEL.now ++ PICTURE.now ++ BESIDE.now ++ LISTS.now

-- a page of more than 200,000 events ends with a mark
abbrev pub large_mark : ℕ → List ℕ
large_mark events = if nat_lt 1000000 events then codes "<!-- large -->\n" else []

-- the page with the text of the graph and its inputs, the listing of its code, the report of the run, and the run's data with so many events
abbrev pub html_text : List ℕ → List ℕ → List ℕ → List ℕ → ℕ → List ℕ
html_text source listing report run events = (part_text Top ++ source) ++ (part_text ToListing ++ listing) ++ (part_text ToReport ++ report)
    ++ (part_text ToData ++ run) ++ part_text Script ++ large_mark events

-- the same page with a text beside the code: the pane ends the data
abbrev pub html_text_beside : List ℕ → List ℕ → List ℕ → List ℕ → List ℕ → ℕ → List ℕ
html_text_beside source listing report run pane events = (part_text Top ++ source) ++ (part_text ToListing ++ listing) ++ (part_text ToReport ++ report)
    ++ (part_text ToData ++ run) ++ pane ++ part_text Script ++ large_mark events
