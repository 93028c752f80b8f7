-- What each step shows to the seat that makes it.
use Rattle.std.specs.Prelude.{◌≡◌, ◌≢◌, ℕ, ◌+◌, ◌*◌, ◌<◌, ◌≤◌, List, [], ◌∷◌, ◌++◌, length, Option, Some, None, IsPermutation}
use Rattle.atomic_table.specs.Table.{Me, Step}
use Rattle.tags.specs.declared.token.Token.{Token}
use Rattle.mesh.specs.declared.view.Commit.{Commit}
use Rattle.mesh.specs.declared.view.Deed.TheVariants.{FoundFull, FoundEmpty, SawLive, Stopped, SawStop}
use Rattle.mesh.specs.declared.view.Stage.TheVariants.{Posting, Taking}
use Rattle.mesh.specs.declared.view.Part.{Part}
use Rattle.mesh.specs.declared.view.View.{View}
use Rattle.mesh.specs.Deeds.{Bundle, commit, Says}
use Rattle.mesh.specs.Seats.{AllTo}
use Rattle.mesh.specs.Rule.{with_part, with_seen, posed, noted, after_post, after_take, after_commit, Leaves, Agree, HasCommits, OneStop, Includes, NoOthers}

abbrev Sat : Type 0 → Type 0
Sat B = Me (Option B) View

abbrev At : Type 0 → Type 0
At B = Step (Option B)

module _ {B : Type 0} where
  -- the bundle is the one that the poster holds
  abbrev pub looked_to : Bundle → At B → Sat B → ℕ → Sat B → Type 0
  looked_to x st m found m' = (p : Part) (b : ℕ) → m.0.parts ≡ p ∷ [] → st.word ≡ 16 * p.element + b → b < 16
      → (found ≡ 0 → m' ≡ (with_part m.0 (posed p (Posting b)), (st.word, None) ∷ []))
      × (found ≢ 0 → m' ≡ (with_part m.0 (noted p (FoundFull b x)), []))

  abbrev pub looked_from : (B → List Token) → At B → Sat B → ℕ → Sat B → Type 0
  looked_from items st m found m' = (p : Part) (a : ℕ) → m.0.parts ≡ p ∷ [] → st.word ≡ 16 * a + p.element → p.element < 16
      → (found ≡ 0 → m' ≡ (with_part m.0 (noted p (FoundEmpty a)), []))
      × (found ≢ 0 → (x : B) × (m' ≡ (with_part m.0 (posed p (Taking a (items x))), (st.word, Some x) ∷ [])) × AllTo m.0.elements p.element (items x))

  abbrev pub gave : (B → List Token) → At B → Sat B → ℕ → Sat B → Type 0
  gave items st m found m' = (p : Part) (b : ℕ) (x : B) → m.0.parts ≡ p ∷ [] → p.stage ≡ Posting b → m.1 ≡ (st.word, Some x) ∷ []
      → (kept : List Token) × IsPermutation p.held (items x ++ kept) × (m' ≡ (with_part m.0 (after_post p b (items x) kept), []))

  abbrev pub gave_back : At B → Sat B → ℕ → Sat B → Type 0
  gave_back st m found m' = (p : Part) (a : ℕ) (x : Bundle) → m.0.parts ≡ p ∷ [] → p.stage ≡ Taking a x
      → m' ≡ (with_part m.0 (after_take p a x), [])

  abbrev pub committed : List Token → List Token → At B → Sat B → ℕ → Sat B → Type 0
  committed spent made st m found m' = (p : Part) → m.0.parts ≡ p ∷ []
      → (kept : List Token) × (between : List Commit) × IsPermutation p.held (spent ++ kept)
      × (m' ≡ (with_seen m.0 (after_commit p spent made kept) ((m.0.seen ++ between) ++ commit p.element spent made ∷ []), m.1))
      × ((count : ℕ) × (count + length spent ≡ found + length made) × Leaves m'.0 count)

  abbrev pub saw_live : At B → Sat B → ℕ → Sat B → Type 0
  saw_live st m found m' = (p : Part) → m.0.parts ≡ p ∷ []
      → (between : List Commit) × (m' ≡ (with_seen m.0 (noted p (SawLive found)) (m.0.seen ++ between), m.1)) × Leaves m'.0 found × (length p.held ≤ found)

  abbrev pub tried_stop : At B → Sat B → ℕ → Sat B → Type 0
  tried_stop st m found m' = (p : Part) → m.0.parts ≡ p ∷ []
      → (m' ≡ (with_part m.0 (noted p (Stopped st.second found)), m.1)) × ((word : ℕ) × (word ≢ 0) × Says word (p.deeds ++ Stopped st.second found ∷ []))

  abbrev pub saw_stop : At B → Sat B → ℕ → Sat B → Type 0
  saw_stop st m found m' = (p : Part) → m.0.parts ≡ p ∷ []
      → (m' ≡ (with_part m.0 (noted p (SawStop found)), m.1)) × Says found (p.deeds ++ SawStop found ∷ [])

  abbrev pub settled : At B → Sat B → ℕ → Sat B → Type 0
  settled st m found m' = (between : List Commit) × (m' ≡ (record m.0 { seen = m.0.seen ++ between }, m.1)) × Leaves m'.0 found × Agree m'.0
      × HasCommits m'.0 × OneStop m'.0 × Includes m'.0 × NoOthers m'.0
