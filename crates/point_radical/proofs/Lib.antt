mod RadicalRows
