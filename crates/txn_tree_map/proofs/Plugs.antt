-- The whole tree, around one that hangs at the end of a path.
use Rattle.txn_tree_map.proofs.Common.{Tree, Node, Step, Path}
use Rattle.std.specs.Prelude.{[], ◌∷◌, if◌then◌else◌}

-- the node of a step, with this tree on the side where the step goes
abbrev pub whole_of : Step → Tree → Tree
whole_of st tree = if st.left then Node tree st.cell st.other else Node st.other st.cell tree

-- the whole tree, where this one hangs at the end of the path
abbrev pub plug : Path → Tree → Tree
plug [] tree = tree
plug (st ∷ path) tree = plug path (whole_of st tree)
