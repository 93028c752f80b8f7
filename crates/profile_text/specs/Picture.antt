-- The picture of a profile, in SVG 1.1: a bar for each wave, or for some neighbours. It is 900 units wide and 400 high; the bars
-- are in a field of 800 by 300, whose lower left corner is at (70, 340).
use Rattle.std.specs.Prelude.{ℕ, zero, suc, ◌+◌, ◌-◌, ◌*◌, ◌/◌, ◌%◌, List, [], ◌∷◌, ◌++◌, take, drop, length, decimal, codes, nat_lt, if◌then◌else◌}
use Rattle.oracle.specs.Waves.{work}
use Rattle.profile_text.specs.ProfileText.{together, whole_of, hundredths_of}

-- the greatest of the numbers, from one on
abbrev pub greatest_from : ℕ → List ℕ → ℕ
greatest_from m [] = m
greatest_from m (n ∷ ns) = greatest_from (if nat_lt m n then n else m) ns

abbrev pub greatest : List ℕ → ℕ
greatest ns = greatest_from 0 ns

-- JOINED WAVES. There are at most 400 bars: this number of neighbours share one bar, whose height is the greatest of them.
abbrev pub waves_a_bar : ℕ → ℕ
waves_a_bar waves = (waves - 1) / 400 + 1

abbrev pub bar_count : ℕ → ℕ
bar_count zero = 0
bar_count (suc last) = last / waves_a_bar (suc last) + 1

-- how high a number is drawn where the greatest of all is top
abbrev pub height : ℕ → ℕ → ℕ
height n zero = 0
height n (suc top) = 300 * n / suc top

-- A BAR, by its number from 0 on and the number of all bars, that shows a number where the greatest of all is top. The field is flipped, so
-- that it grows upwards from 0.
abbrev pub bar_text : ℕ → ℕ → ℕ → ℕ → List ℕ
bar_text bars k n top = codes "<rect x=\"" ++ decimal (800 * k / bars) ++ codes "\" width=\"" ++ decimal ((799 + bars) / bars) ++ codes "\" height=\""
    ++ decimal (height n top) ++ codes "\"/>\n"

-- further bars, of the waves that are left
unfoldable pub bars_from : ℕ → ℕ → ℕ → ℕ → ℕ → List ℕ → List ℕ
bars_from bars size top k zero counts = []
bars_from bars size top k (suc more) counts = bar_text bars k (greatest (take size counts)) top ++ bars_from bars size top (k + 1) more (drop size counts)

abbrev pub bars_text : List ℕ → List ℕ
bars_text counts = bars_from (bar_count (length counts)) (waves_a_bar (length counts)) (greatest counts) 0 (bar_count (length counts)) counts

-- THE FRAME: the ground, the axes, what they are called, and the beginning of the legend
abbrev pub open_text : List ℕ
open_text = codes "<svg xmlns=\"http://www.w3.org/2000/svg\" version=\"1.1\" width=\"900\" height=\"400\" viewBox=\"0 0 900 400\" font-family=\"sans-serif\" font-size=\"14\">\n<rect width=\"900\" height=\"400\" fill=\"white\"/>\n<path d=\"M70 40V340H870\" fill=\"none\" stroke=\"black\"/>\n<text x=\"62\" y=\"345\" text-anchor=\"end\">0</text>\n<text x=\"70\" y=\"360\">1</text>\n<text x=\"20\" y=\"190\" text-anchor=\"middle\" transform=\"rotate(-90 20 190)\">activities</text>\n<text x=\"70\" y=\"24\">"

-- the legend
abbrev pub sizes_text : ℕ → ℕ → List ℕ
sizes_text w s = together (codes "work " ∷ decimal w ∷ codes ", span " ∷ decimal s ∷ [])

-- a number with two decimals, between words
abbrev pub decimals_text : List ℕ → ℕ → ℕ → List ℕ → List ℕ
decimals_text before whole hundredths behind = together (before ∷ decimal whole ∷ codes "." ∷ decimal (hundredths / 10) ∷ decimal (hundredths % 10)
    ∷ behind ∷ [])

abbrev pub ratio_text : ℕ → ℕ → List ℕ
ratio_text w s = decimals_text (codes ", parallelism ") (whole_of w s) (hundredths_of w s) (codes "</text>\n")

abbrev pub legend_text : ℕ → ℕ → List ℕ
legend_text w s = sizes_text w s ++ ratio_text w s

-- a number at a place, and words after it
abbrev pub label_text : List ℕ → ℕ → List ℕ → List ℕ
label_text place n words = together (codes "<text " ∷ place ∷ codes ">" ∷ decimal n ∷ words ∷ codes "</text>\n" ∷ [])

-- the greatest number, the last wave, and how many waves a bar has
abbrev pub labels_text : ℕ → ℕ → ℕ → List ℕ
labels_text top s size =
    label_text (codes "x=\"62\" y=\"45\" text-anchor=\"end\"") top [] ++ label_text (codes "x=\"870\" y=\"360\" text-anchor=\"end\"") s []
    ++ label_text (codes "x=\"470\" y=\"385\" text-anchor=\"middle\"") size (codes " wave(s) a bar")

-- the field of the bars
abbrev pub field_text : List ℕ → List ℕ
field_text counts = codes "<g transform=\"translate(70 340) scale(1 -1)\" fill=\"steelblue\">\n" ++ bars_text counts ++ codes "</g>\n</svg>\n"

-- THE WHOLE
abbrev pub svg_text : List ℕ → List ℕ
svg_text counts = open_text ++ legend_text (work counts) (length counts) ++ labels_text (greatest counts) (length counts)
    (waves_a_bar (length counts)) ++ field_text counts
