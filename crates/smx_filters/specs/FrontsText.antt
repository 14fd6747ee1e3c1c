-- The fronts text: for each process, the numbers of entries and links that were seen after its program had ended.
use Rattle.std.specs.Prelude.{ℕ, ◌+◌, List, [], ◌∷◌, ◌++◌, codes}
use Rattle.std.specs.Fmt.{decimal}
use Rattle.smx_words.specs.Words.{LINE_FEED, SPACE}
use Rattle.smx_shared.specs.declared.front.Front.{Front}

-- the line of one front: the process, the entries and the links
abbrev pub front_line : ℕ → Front → List ℕ
front_line process front =
    codes "front " ++ decimal process ++ SPACE ∷ decimal front.entries ++ SPACE ∷ decimal front.links ++ LINE_FEED ∷ []

-- the lines of fronts, from process `n` on
abbrev pub front_lines : ℕ → List Front → List ℕ
front_lines n [] = []
front_lines n (front ∷ fronts) = front_line n front ++ front_lines (n + 1) fronts

-- the whole text: the first line, with the version; a line for each process by rising number; and the end line
abbrev pub fronts_text : List Front → List ℕ
fronts_text fronts = codes "fronts 1\n" ++ front_lines 0 fronts ++ codes "end\n"
